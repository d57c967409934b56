-- Lemmas about children and parents: the parent of a child is the identifier, and adding the last
-- arc to the parent gives the identifier.
use Rattle.std.proofs.Common.{◌≡◌, ℕ, ◌-◌, ◌<◌, ◌≤◌, ◌⊎◌, inl, inr, List, [], ◌∷◌, ◌++◌, length, take, Ok, None, Some, sym, refl, ap, subst, ◌∙◌, length-append, arith}
use Rattle.std.proofs.Math.Seq.{take-append_seam}
use Rattle.std.proofs.lemmas.Bool.{lt-ltb, le-ltb}
use Rattle.const_oid.specs.IdentifierOctets.{identifier_octets, IsIdentifier}
use Rattle.const_oid.specs.Family.{child_of, parent_of}
use Rattle.const_oid.proofs.EncodingLaws.{identifier-many, child-was}
use Rattle.const_oid.proofs.ParentLaws.{unsnoc}

-- Taking all elements but the last.
pub front-push : (front : List ℕ) (a : ℕ) → take (length (front ++ (a ∷ [])) - 1) (front ++ (a ∷ [])) ≡ front
front-push front a =
    let n : length (front ++ (a ∷ [])) - 1 ≡ length front = omega (arith, length-append front (a ∷ [])) in
    ap (λ k. take k (front ++ (a ∷ []))) n ∙ take-append_seam front (a ∷ [])

pub parent-few : (arcs : List ℕ) → length arcs ≤ 2 → parent_of arcs ≡ None
parent-few arcs l = rw (le-ltb 2 (length arcs) l) refl

pub parent-push : (front : List ℕ) (a : ℕ) → 2 ≤ length front → parent_of (front ++ (a ∷ [])) ≡ Some front
parent-push front a many =
    let more : 2 < length (front ++ (a ∷ [])) = omega (arith, length-append front (a ∷ [])) in
    rw (lt-ltb 2 (length (front ++ (a ∷ []))) more) (ap (λ t. Some t) (front-push front a))

child-ok : (capacity : ℕ) (arcs : List ℕ) (a : ℕ) → length (identifier_octets (arcs ++ (a ∷ []))) ≤ capacity → child_of capacity arcs a ≡ Ok (arcs ++ (a ∷ []))
child-ok capacity arcs a l = rw (le-ltb capacity (length (identifier_octets (arcs ++ (a ∷ [])))) l) refl

pub parent_of_child : (bound capacity : ℕ) (arcs child : List ℕ) (a : ℕ) → IsIdentifier bound arcs → child_of capacity arcs a ≡ Ok child → parent_of child ≡ Some arcs
parent_of_child bound capacity arcs child a id e =
    ap parent_of (child-was capacity arcs child a e) ∙ parent-push arcs a (identifier-many bound arcs id)

pub child_of_parent : (capacity : ℕ) (arcs front : List ℕ) → length (identifier_octets arcs) ≤ capacity → parent_of arcs ≡ Some front
    → (last : ℕ) × (arcs ≡ front ++ (last ∷ [])) × (child_of capacity front last ≡ Ok arcs)
child_of_parent capacity arcs front fits e = by (unsnoc arcs)
  where
    many : 2 < length arcs
    many = grind (arith, parent-few arcs)

    by : (arcs ≡ []) ⊎ ((before : List ℕ) × (last : ℕ) × (arcs ≡ before ++ (last ∷ []))) → (last : ℕ) × (arcs ≡ front ++ (last ∷ [])) × (child_of capacity front last ≡ Ok arcs)
    by (inl none) = absurd (omega (arith, many, ap length none))
    by (inr p) =
        let two : 2 ≤ length p.0 = omega (arith, many, ap length p.2, length-append p.0 (p.1 ∷ [])) in
        let found = ap parent_of p.2 ∙ parent-push p.0 p.1 two in
        let both : Some front ≡ Some p.0 = sym e ∙ found in
        let same : front ≡ p.0 = cc in
        let whole : arcs ≡ front ++ (p.1 ∷ []) = p.2 ∙ ap (λ t. t ++ (p.1 ∷ [])) (sym same) in
        (p.1, whole, child-ok capacity front p.1 (subst (λ t. length (identifier_octets t) ≤ capacity) whole fits) ∙ ap (λ t. Ok t) (sym whole))
