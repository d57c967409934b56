-- Goals of `auditing::verdict_of` that the checker doesn't prove by itself.
use Rattle.cert_desk_orders.specs.CertParts.Views.{algorithm_plain}
use Rattle.cert_desk_issuing_c.proofs.Audits.{is_judged}
use Rattle.cert_desk_issuing_c.proofs.auditing.verdict_of.Goals as goal

pub returns-in-Ok-clause-judged : goal.returns-in-Ok-clause-judged
returns-in-Ok-clause-judged c =
    is_judged c.args.orders.now c.args.moment c.args.purpose.now c.in_ok-issued.issued.certificates c.in_ok-issued.issued.stream c.in-Ok.checked.verdict c.stream.ensures.chain c.in-Ok.ensures.verdict
    (algorithm_plain c.args.algorithm.now) c.args.signature.now c.in_ok-issued.ensures.issued
