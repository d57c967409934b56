-- Lemmas about splitting off the last arc of an identifier, and the last byte of an arc.
use Rattle.std.proofs.Common.{◌≡◌, ℕ, ◌+◌, ◌*◌, ◌/◌, ◌%◌, ◌<◌, ◌≤◌, ◌⊎◌, inl, inr, List, [], ◌∷◌, ◌++◌, length, map, refl, ap, subst, ◌∙◌, length-append, arith}
use Rattle.std.specs.List.{AllByRecursion, flat_map}
use Rattle.std.proofs.lemmas.Bool.{cases_lt}
use Rattle.const_oid.specs.Digits.{digits}
use Rattle.const_oid.specs.IdentifierOctets.{arc_octets, identifier_octets, IsIdentifier}
use Rattle.const_oid.proofs.EncodingLaws.{arc_octets-one, arc_octets-more}
use Rattle.const_oid.proofs.IdentifierLaws.{identifier_octets-push}

-- Bytes with bit 8 set, followed by one with bit 8 clear.
pub record Parts (octets : List ℕ) : Type 0 where
  pub front : List ℕ
  pub last : ℕ
  pub whole : octets ≡ map (λ d. 128 + d) front ++ (last ∷ [])
  pub unmarked : last < 128

pub arc_parts : (a : ℕ) → Parts (arc_octets a)
arc_parts a = by (cases_lt a 128)
  where
    by : (a < 128) ⊎ (128 ≤ a) → Parts (arc_octets a)
    by (inl l) = record { front = []; last = a; whole = arc_octets-one a l; unmarked = l }
    by (inr l) = record { front = digits 128 (a / 128); last = a % 128; whole = arc_octets-more a l; unmarked = omega arith }

-- A list is empty, or has a last element.
pub unsnoc : (xs : List ℕ) → (xs ≡ []) ⊎ ((front : List ℕ) × (last : ℕ) × (xs ≡ front ++ (last ∷ [])))
unsnoc [] = inl refl
unsnoc (x ∷ xs) = by (unsnoc xs)
  where
    by : (xs ≡ []) ⊎ ((front : List ℕ) × (last : ℕ) × (xs ≡ front ++ (last ∷ []))) → (x ∷ xs ≡ []) ⊎ ((front : List ℕ) × (last : ℕ) × (x ∷ xs ≡ front ++ (last ∷ [])))
    by (inl e) = inr ([], x, ap (λ t. x ∷ t) e)
    by (inr p) = inr (x ∷ p.0, p.1, ap (λ t. x ∷ t) p.2)

-- The first byte alone, or an identifier and one more arc.
pub data Last (bound : ℕ) (arcs : List ℕ) : Type 0 where
  root : (r : ℕ) → r < 128 → identifier_octets arcs ≡ r ∷ [] → length arcs ≡ 2 → Last bound arcs
  more : (front : List ℕ) (a : ℕ) → IsIdentifier bound front → arcs ≡ front ++ (a ∷ []) → identifier_octets arcs ≡ identifier_octets front ++ arc_octets a → length arcs ≡ length front + 1 → Last bound arcs

pub last_of : (bound : ℕ) (arcs : List ℕ) → IsIdentifier bound arcs → Last bound arcs
unfolding IsIdentifier identifier_octets
last_of bound (x ∷ y ∷ later) id = by (unsnoc later)
  where
    front_all : (xs ys : List ℕ) → AllByRecursion (λ n. n < bound) (xs ++ ys) → AllByRecursion (λ n. n < bound) xs
    front_all [] ys all = tt
    front_all (z ∷ xs) ys all = (all.0, front_all xs ys all.1)

    by : (later ≡ []) ⊎ ((front : List ℕ) × (last : ℕ) × (later ≡ front ++ (last ∷ []))) → Last bound (x ∷ y ∷ later)
    by (inl e) = root (40 * x + y) (omega (arith, id.0, id.1)) (ap (λ t. (40 * x + y) ∷ flat_map arc_octets t) e) (ap (λ (t : List ℕ). length (x ∷ y ∷ t)) e)
    by (inr p) =
        let front_id : IsIdentifier bound (x ∷ y ∷ p.0) = (id.0, id.1, front_all p.0 (p.1 ∷ []) (subst (AllByRecursion (λ n. n < bound)) p.2 id.2)) in
        let whole : x ∷ y ∷ later ≡ (x ∷ y ∷ p.0) ++ (p.1 ∷ []) = ap (λ t. x ∷ y ∷ t) p.2 in
        more (x ∷ y ∷ p.0) p.1 front_id whole (ap identifier_octets whole ∙ identifier_octets-push bound (x ∷ y ∷ p.0) p.1 front_id)
        (ap length whole ∙ length-append (x ∷ y ∷ p.0) (p.1 ∷ []))
last_of bound _ id = absurd id
