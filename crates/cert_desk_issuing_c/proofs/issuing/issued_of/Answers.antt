-- Goals of `issuing::issued_of` that the checker doesn't prove by itself.
use Rattle.std.proofs.Common.{map, inr, ap, ◌∙◌}
use Rattle.cert_desk_orders.specs.CertParts.Views.{algorithm_plain}
use Rattle.cert_desk_issuing_c.specs.Signing.{signer_plain}
use Rattle.cert_desk_issuing_c.proofs.GivenChains.{hold_each}
use Rattle.cert_desk_issuing_c.proofs.issuing.issued_of.Goals as goal

pub returns-in-Ok-issue-clause-issued : goal.returns-in-Ok-issue-clause-issued
returns-in-Ok-issue-clause-issued c =
    hold_each c.args.orders.now (algorithm_plain c.args.algorithm.now) c.args.signature.now c.as_slice.result.now (ap (map signer_plain) c.as_slice.ensures.value ∙ c.in-Ok.ensures)
    c.in-Ok-issue.issued.stream c.in-Ok-issue.issued.certificates c.in-Ok-issue.ensures.issued c.stream.ensures.chain

pub returns-clause-refused : goal.returns-clause-refused
returns-clause-refused c =
    inr (c.as_slice.result.now, ap (map signer_plain) c.as_slice.ensures.value ∙ c.in-Ok.ensures, c.in-Err.ensures.refused)
