-- Lemmas about prefixes: an encoding begins with that of an identifier exactly if the arcs begin
-- with its arcs.
use Rattle.std.proofs.Common.{◌≡◌, ℕ, ◌+◌, ◌*◌, List, [], ◌∷◌, ◌++◌, length, sym, refl, ap, ◌∙◌, append_assoc, length-append, arith}
use Rattle.std.specs.List.{flat_map}
use Rattle.std.proofs.lemmas.Grind.{flat_map-append}
use Rattle.const_oid.specs.Digits.{digits}
use Rattle.const_oid.specs.IdentifierOctets.{arc_octets, identifier_octets, IsIdentifier}
use Rattle.const_oid.proofs.DigitLaws.{digits-Digits, split-marked, same_from_digits}
use Rattle.const_oid.proofs.EncodingLaws.{length-arc_octets, length-digits-pos}
use Rattle.const_oid.proofs.ArcsLaws.{arcs_of-identifier_octets}
use Rattle.const_oid.specs.Arcs.{arcs_of}

-- The encoding of an arc determines where it ends.
pub split-arc : (x y : ℕ) (r s : List ℕ) → arc_octets x ++ r ≡ arc_octets y ++ s → (x ≡ y) × (r ≡ s)
unfolding arc_octets
split-arc x y r s e =
    let dx = digits-Digits 128 x (omega arith) in
    let dy = digits-Digits 128 y (omega arith) in
    let parts = split-marked (digits 128 x) (digits 128 y) r s dx.below dy.below dx.some dy.some e in
    (same_from_digits 128 x y (omega arith) parts.0, parts.1)

later_prefix : (a b r : List ℕ) → flat_map arc_octets a ≡ flat_map arc_octets b ++ r → (rest : List ℕ) × (a ≡ b ++ rest)
later_prefix a [] r e = (a, refl)
later_prefix [] (y ∷ b) r e =
    absurd (omega (arith, ap length e, length-append (arc_octets y ++ flat_map arc_octets b) r, length-append (arc_octets y) (flat_map arc_octets b), length-arc_octets y, length-digits-pos y))
later_prefix (x ∷ a) (y ∷ b) r e =
    let parts = split-arc x y (flat_map arc_octets a) (flat_map arc_octets b ++ r) (e ∙ append_assoc (arc_octets y) (flat_map arc_octets b) r) in
    let rest = later_prefix a b r parts.1 in
    (rest.0, ap (λ t. x ∷ t) rest.1 ∙ ap (λ z. z ∷ (b ++ rest.0)) parts.0)

pub octets_prefix : (bound : ℕ) (a b r : List ℕ) → IsIdentifier bound a → IsIdentifier bound b → identifier_octets a ≡ identifier_octets b ++ r → (rest : List ℕ) × (a ≡ b ++ rest)
unfolding identifier_octets IsIdentifier
octets_prefix bound (x ∷ y ∷ a) [] r p q e = absurd q
octets_prefix bound (x ∷ y ∷ a) (u ∷ []) r p q e = absurd q
octets_prefix bound (x ∷ y ∷ a) (u ∷ v ∷ b) r p q e =
    let root : 40 * x + y ≡ 40 * u + v = cc in
    let later : flat_map arc_octets a ≡ flat_map arc_octets b ++ r = cc in
    let first : x ≡ u = omega (arith, root, p.1, q.1) in
    let second : y ≡ v = omega (arith, root, p.1, q.1) in
    let rest = later_prefix a b r later in
    (rest.0, ap (λ t. x ∷ y ∷ t) rest.1 ∙ ap (λ z. z ∷ y ∷ (b ++ rest.0)) first ∙ ap (λ z. u ∷ z ∷ (b ++ rest.0)) second)
octets_prefix bound _ b r p q e = absurd p

pub prefix_octets : (bound : ℕ) (b rest : List ℕ) → IsIdentifier bound b → identifier_octets (b ++ rest) ≡ identifier_octets b ++ flat_map arc_octets rest
unfolding identifier_octets IsIdentifier
prefix_octets bound (u ∷ v ∷ b) rest q = ap (λ t. (40 * u + v) ∷ t) (flat_map-append arc_octets b rest)
prefix_octets bound _ rest q = absurd q

pub same_octets : (bound : ℕ) (a b : List ℕ) → IsIdentifier bound a → IsIdentifier bound b → identifier_octets a ≡ identifier_octets b → a ≡ b
same_octets bound a b p q e = sym (arcs_of-identifier_octets bound a p) ∙ ap arcs_of e ∙ arcs_of-identifier_octets bound b q

-- If the arcs begin with others, the encoding begins with theirs.
pub prefix_spelled : (bound : ℕ) (arcs front rest w v : List ℕ) → IsIdentifier bound front → w ≡ identifier_octets arcs → v ≡ identifier_octets front → arcs ≡ front ++ rest
    → w ≡ v ++ flat_map arc_octets rest
prefix_spelled bound arcs front rest w v id p q e =
    p ∙ ap identifier_octets e ∙ prefix_octets bound front rest id ∙ ap (λ t. t ++ flat_map arc_octets rest) (sym q)
