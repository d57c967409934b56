-- Goals of `members::encode_members` that the checker doesn't prove by itself.
use Rattle.std.proofs.Common.{arith, ◌≡◌, ◌<◌, ℕ, ◌+◌, List, ◌++◌, length, drop, get_or, Ok, ap, sym, ◌∙◌, subst}
use Rattle.std.proofs.lemmas.Grind.{common_steps}
use Rattle.std.proofs.lemmas.List.{at_drop_more}
use Rattle.std.specs.List.{flat_map}
use Rattle.der_core_octets.specs.CoreHead.Grammar.{plain_list}
use Rattle.der_core_octets.specs.CoreHead.Shapes.{Shape, Value, octets_of, body_octets}
use Rattle.der_core_octets.specs.CoreHead.Writing.{Out, write}
use Rattle.der_core_octets.specs.Outputs.{AddsFront}
use Rattle.der_core_octets.proofs.Added.{none_added, first_added, value_then_added}
use Rattle.der_core_values.proofs.members.encode_members.Goals as goal

-- The encodings of the members from index `i` on.
module _ {A : Type 0} (s : Shape) (f : A → Value s) (xs : List A) (i : ℕ) (x : A) (here : x ≡ get_or xs i x) (l : i < length xs) where
  octets : List A → List ℕ
  octets ys = flat_map (octets_of s) (plain_list f ys)

  more : octets_of s (f x) ++ octets (drop (i + 1) xs) ≡ octets (drop i xs)
  unfolding octets
  more = ap (λ y. octets_of s (f y) ++ octets (drop (i + 1) xs)) here ∙ sym (at_drop_more octets xs i x l)

  one_stopped : (old new : Out) → AddsFront (octets_of s (f x)) old new → AddsFront (flat_map (octets_of s) (plain_list f (drop i xs))) old new
  unfolding octets
  one_stopped old new h = subst (λ w. AddsFront w old new) more (first_added (octets_of s (f x)) (octets (drop (i + 1) xs)) old new h)

  one_more : (old mid new : Out) → write s (f x) old ≡ Ok mid → AddsFront (flat_map (octets_of s) (plain_list f (drop (i + 1) xs))) mid new → AddsFront (flat_map (octets_of s) (plain_list f (drop i xs))) old new
  unfolding octets
  one_more old mid new e h = subst (λ w. AddsFront w old new) more (value_then_added s (f x) (octets (drop (i + 1) xs)) old mid new e h)

pub returns-in_err-encode-clause-front : goal.returns-in_err-encode-clause-front
unfolding body_octets
returns-in_err-encode-clause-front g c =
    c.loop-member.invariant.2 _ (one_stopped g.T.Shaped.shape g.T.Shaped.written c.args.members.now c.loop-member.member-index c.member-item.result c.member-item.is c.loop-member-test.true _ _ c.in_err-encode.ensures.front)

pub loop-member-preserved : goal.loop-member-preserved
loop-member-preserved g c = (
  grind (arith, common_steps),
  grind (arith, common_steps),
  λ new h.
      c.loop-member.invariant.2 new (one_more g.T.Shaped.shape g.T.Shaped.written c.args.members.now c.loop-member.member-index c.member-item.result c.member-item.is c.loop-member-test.true _ _ new c.in_ok-encode.ensures.exact h),
)

pub returns-clause-front : goal.returns-clause-front
unfolding body_octets
returns-clause-front g c = c.loop-member.invariant.2 _ (none_added _ _)
