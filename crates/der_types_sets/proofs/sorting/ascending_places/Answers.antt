-- Goals of `sorting::ascending_places` that the checker doesn't prove by itself.
use Rattle.std.proofs.Common.{◌≡◌, ℕ, List, rules, ap, subst, length, is_lt}
use Rattle.std.specs.List.{range_with_len}
use Rattle.std.specs.List.Sorted.{IsStableBy}
use Rattle.der_core.specs.Orders.{octets_cmp}
use Rattle.std.specs.Cmp.Lexicographic.{nat_list_cmp_total}
use Rattle.std.proofs.lemmas.List.Sorted.{ranks_by}
use Rattle.std.proofs.lemmas.Fn.{always_returns_same}
use Rattle.der_types_sets.specs.Rearranged.{member_encoding}
use Rattle.der_types_sets.proofs.sorting.ascending_places.Goals as goal

pub returns-then-ascend_at-clause-equals : goal.returns-then-ascend_at-clause-equals
returns-then-ascend_at-clause-equals g c =
    let enc = member_encoding g.T.Shaped.shape g.T.Shaped.written c.args.members.now in
    let here : c.in_ok-places.places.items ≡ range_with_len 0 (length c.args.members.now) = search rules in
    λ all. subst (λ (l : List ℕ). IsStableBy (λ p q. is_lt (octets_cmp (enc p) (enc q))) l c.sort_by.new.self.items) here
    (c.sort_by.ensures.stable _ (ranks_by nat_list_cmp_total enc) (always_returns_same _ _ _ (λ a r fn k. (ap is_lt (search rules), search rules))))
