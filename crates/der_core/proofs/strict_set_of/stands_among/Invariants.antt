-- The loop invariants of `strict_set_of::stands_among`.
use Rattle.std.proofs.Common.{◌≡◌, drop}
use Rattle.der_core_coding.specs.CoreHead.Grammar.{plain_list}
use Rattle.der_core_coding.specs.CoreHead.Shapes.{IsValid}
use Rattle.der_core.specs.Placed.{AllValid, stands_among}
use Rattle.der_core.proofs.strict_set_of.stands_among.Given as goal

abbrev pub invariant-loop-place : goal.invariant-loop-place
invariant-loop-place g l =
    let s = g.T.Shaped.shape in
    let f = g.T.Shaped.written in
    AllValid s f l.values → IsValid s (f l.item)
    → stands_among s (f l.item) (plain_list f l.values) ≡ stands_among s (f l.item) (plain_list f (drop l.place l.values))
