-- The loop invariants of `strict_set_of::place_of`.
use Rattle.der_core_coding.specs.CoreHead.Shapes.{IsValid}
use Rattle.der_core.specs.Placed.{AllValid, is_below}
use Rattle.der_core.proofs.IterOrders.{IsPast}
use Rattle.der_core.proofs.strict_set_of.place_of.Given as goal

abbrev pub invariant-loop-place : goal.invariant-loop-place
invariant-loop-place g l =
    let s = g.T.Shaped.shape in
    let f = g.T.Shaped.written in
    AllValid s f l.values → IsValid s (f l.item) → IsPast f (is_below s) (f l.item) l.values l.place
