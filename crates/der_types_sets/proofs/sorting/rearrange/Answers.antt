-- Goals of `sorting::rearrange` that the checker doesn't prove by itself.
use Rattle.std.proofs.Common.{arith, length, ap, vec_capacity}
use Rattle.std.specs.List.{range_with_len}
use Rattle.std.proofs.lemmas.List.FromFn.{length-range_with_len}
use Rattle.std.proofs.lemmas.List.Sorted.{length_permutation}
use Rattle.der_types_sets.proofs.sorting.rearrange.Goals as goal

pub take_at-requires-clause-room : goal.take_at-requires-clause-room
take_at-requires-clause-room g c =
    let n = length c.args.members.now.items in
    omega (arith, length_permutation (range_with_len 0 n) c.args.places.now c.requires, length-range_with_len 0 n, c.in_ok-moved.ensures.capacity, c.len-2.ensures, c.args.members.now.ok.0, ap vec_capacity c.replace.ensures.after)
