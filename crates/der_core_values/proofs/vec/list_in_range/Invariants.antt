-- The loop invariants of `vec::list_in_range`.
use Rattle.std.proofs.Common.{drop}
use Rattle.std.specs.List.{AllByRecursion}
use Rattle.der_core_octets.specs.CoreHead.Grammar.{plain_list}
use Rattle.der_core_octets.specs.CoreHead.Ranges.{IsInRange}
use Rattle.der_core_values.proofs.vec.list_in_range.Given as goal

abbrev pub invariant-loop-value : goal.invariant-loop-value
invariant-loop-value g l =
    let R = IsInRange g.T.Shaped.shape in
    AllByRecursion R (plain_list g.T.Shaped.written (drop l.value-index l.values)) → AllByRecursion R (plain_list g.T.Shaped.written l.values)
