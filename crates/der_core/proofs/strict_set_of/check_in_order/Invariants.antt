-- The loop invariants of `strict_set_of::check_in_order`.
use Rattle.der_core_coding.specs.CoreHead.Grammar.{plain_option}
use Rattle.der_core_coding.specs.Steps.{step_of}
use Rattle.der_core.proofs.IterOrders.{ComparedAlike}
use Rattle.der_core.proofs.strict_set_of.check_in_order.Given as goal

abbrev pub invariant-loop-value : goal.invariant-loop-value
invariant-loop-value g l = ComparedAlike (step_of l.fn.equal) g.T.Shaped.shape g.T.Shaped.written l.values l.value-index (plain_option (λ r. g.T.Shaped.written r.now) l.last)
