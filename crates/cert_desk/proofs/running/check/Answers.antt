-- Goals of `running::check`: both inputs are opened, and the run is a check of them.
use Rattle.std.proofs.Common.{inl}
use Rattle.cert_desk.proofs.running.check.Goals as goal

pub returns : goal.returns
returns g c =
    record {
      told = inl (
        c.in-Ok.anchors,
        c.run_check.new.anchors,
        c.in-Ok.ensures.opened,
        (c.in-Ok-open.stream, c.run_check.new.stream, c.in-Ok-open.ensures.opened, c.run_check.ensures.told),
      );
    }
