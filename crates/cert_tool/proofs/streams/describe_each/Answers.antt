-- Goals of `streams::describe_each` that the checker doesn't prove by itself.
use Rattle.std.proofs.Common.{inl}
use Rattle.cert_tool.proofs.streams.describe_each.Goals as goal

pub returns : goal.returns
returns g c =
    let told = c.run_describe-status.ensures.told in
    record {
      told = inl (
        c.in-Ok.stream,
        c.run_describe-status.new.stream,
        c.in-Ok.ensures.opened,
        (told.0, told.1, (c.run_describe-status.new.err, told.2)),
      );
    }
