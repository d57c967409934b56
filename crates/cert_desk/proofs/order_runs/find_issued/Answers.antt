-- Goals of `order_runs::find_issued` that the checker doesn't prove by itself.
use Rattle.std.proofs.Common.{map, ap, ◌∙◌}
use Rattle.cert_desk.specs.Runs.{signer_key}
use Rattle.cert_desk.proofs.order_runs.find_issued.Goals as goal

pub returns-in-Ok-issue : goal.returns-in-Ok-issue
returns-in-Ok-issue c = (c.as_slice.result.now, ap (map signer_key) c.as_slice.ensures.value ∙ c.in-Ok.ensures, c.in-Ok-issue.ensures.issued)

pub returns : goal.returns
returns c =
    let told = c.in_default-error.not-OutOfMemory in (
      c.as_slice.result.now,
      ap (map signer_key) c.as_slice.ensures.value ∙ c.in-Ok.ensures,
      c.in-Err.ensures.refused,
      told,
      λ issuable. told (c.in-Err.ensures.complete issuable),
    )
