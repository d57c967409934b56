-- Goals of `relative_distinguished_name::are_apart` that the checker doesn't prove by itself.
use Rattle.std.proofs.Common.{◌<◌, ◌≤◌, length, sym, ◌∙◌, arith, ◌≡◌, ℕ, zero, suc, ◌+◌, ◌-◌, List, [], ◌∷◌, take, get_or, true, false, ap, subst}
use Rattle.x509_cert_names.specs.Ordered.{DifferInTurn}
use Rattle.x509_cert_names.specs.Pairs.{same_pair}
use Rattle.x509_cert_names.specs.declared.attribute_type_and_value.AttributeTypeAndValue.{AttributeTypeAndValue}
use Rattle.x509_cert_names.proofs.relative_distinguished_name.are_apart.Goals as goal

-- Attributes of which each differs from the next, step by step.
first_differs : (xs : List AttributeTypeAndValue) → DifferInTurn (take 1 xs)
first_differs [] = tt
first_differs (a ∷ xs) = tt

more : (xs : List AttributeTypeAndValue) (k : ℕ) (a b : AttributeTypeAndValue) → suc k < length xs → a ≡ get_or xs k a → b ≡ get_or xs (suc k) b
    → same_pair a b ≡ false → DifferInTurn (take (suc k) xs) → DifferInTurn (take (suc (suc k)) xs)
more (x ∷ y ∷ xs) zero a b lt e f differ h = (rw (← e, ← f) differ, tt)
more (x ∷ y ∷ xs) (suc k) a b lt e f differ h = (h.0, more (y ∷ xs) k a b (omega (arith, lt)) e f differ h.1)
more xs k a b lt e f differ h = absurd (omega arith)

equal : (xs : List AttributeTypeAndValue) (k : ℕ) (a b : AttributeTypeAndValue) → suc k < length xs → a ≡ get_or xs k a → b ≡ get_or xs (suc k) b
    → same_pair a b ≡ true → DifferInTurn xs → ⊥
equal (x ∷ y ∷ xs) zero a b lt e f same h =
    let differ : same_pair a b ≡ false = ap (λ v. same_pair v b) e ∙ ap (λ v. same_pair x v) f ∙ h.0 in
    absurd (cc)
equal (x ∷ y ∷ xs) (suc k) a b lt e f same h = equal (y ∷ xs) k a b (omega (arith, lt)) e f same h.1
equal xs k a b lt e f same h = absurd (omega arith)

more_differ : (xs : List AttributeTypeAndValue) (place : ℕ) (a b : AttributeTypeAndValue) → 1 ≤ place → place < length xs → a ≡ get_or xs (place - 1) a → b ≡ get_or xs place b
    → same_pair a b ≡ false → DifferInTurn (take place xs) → DifferInTurn (take (place + 1) xs)
more_differ xs zero a b one lt e f differ h = absurd (omega arith)
more_differ xs (suc k) a b one lt e f differ h =
    let before : suc k - 1 ≡ k = omega arith in
    let behind : suc k + 1 ≡ suc (suc k) = omega arith in
    let P : ℕ → Type 0 = λ i. DifferInTurn (take i xs) in
    subst P (sym behind) (more xs k a b lt (e ∙ ap (λ (i : ℕ). get_or xs i a) before) f differ h)

one_equals : (xs : List AttributeTypeAndValue) (place : ℕ) (a b : AttributeTypeAndValue) → 1 ≤ place → place < length xs → a ≡ get_or xs (place - 1) a → b ≡ get_or xs place b
    → same_pair a b ≡ true → DifferInTurn xs → ⊥
one_equals xs zero a b one lt e f same h = absurd (omega arith)
one_equals xs (suc k) a b one lt e f same h =
    let before : suc k - 1 ≡ k = omega arith in
    equal xs k a b lt (e ∙ ap (λ (i : ℕ). get_or xs i a) before) f same h

pub loop-place-init : goal.loop-place-init
loop-place-init c = first_differs c.args.attributes.now

pub returns-then-eq : goal.returns-then-eq
returns-then-eq c =
    let one : 1 ≤ c.loop-place.place = omega arith in
    let lt : c.loop-place.place < length c.args.attributes.now = omega arith in (
      λ e. absurd cc,
      λ d. absurd (one_equals c.args.attributes.now c.loop-place.place c.index-attributes-place.result c.index-attributes-place-in-loop-place.result one lt c.index-attributes-place.is
          c.index-attributes-place-in-loop-place.is (sym c.eq.ensures ∙ c.if-eq.true) d),
    )

pub loop-place-preserved : goal.loop-place-preserved
loop-place-preserved c =
    let one : 1 ≤ c.loop-place.place = omega arith in
    let lt : c.loop-place.place < length c.args.attributes.now = omega arith in
    more_differ c.args.attributes.now c.loop-place.place c.index-attributes-place.result c.index-attributes-place-in-loop-place.result one lt c.index-attributes-place.is
    c.index-attributes-place-in-loop-place.is (sym c.eq.ensures ∙ c.if-eq.false) c.loop-place.invariant
