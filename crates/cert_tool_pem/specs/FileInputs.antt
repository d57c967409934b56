-- The abstract state of an input of bytes in memory that are followed by another input.
use Rattle.std.specs.Prelude.{◌≡◌, ℕ, ◌⊎◌, List, [], ◌∷◌, ◌++◌, drop, IsTrue}
use Rattle.std.specs.Prelude.{Option, Some, None}
use Rattle.std.proofs.Common.{append_assoc, append-nil, ap, inl, inr, refl, subst, sym, ◌∙◌}
use Rattle.cert_tool_pem.specs.declared.file_input.FileInput.{FileInput}

-- The bytes in memory that weren't read yet.
abbrev pub front_of : {R : Type 0} → FileInput R → List ℕ
front_of input = drop input.taken input.front.items

-- The other input, if there is one.
abbrev pub rest_of : {R : Type 0} → FileInput R → Option R
rest_of input = input.rest

-- The bytes that were read come from memory; or they are all bytes in memory, followed by bytes of
-- the other input.
abbrev pub TakesFrom : {R : Type 0} → (R → List ℕ → R → Type 0) → List ℕ → Option R → List ℕ
    → List ℕ → Option R → Type 0
TakesFrom takes front None octets back None = front ≡ octets ++ back
TakesFrom {R} takes front (Some old) octets back (Some new) =
    ((front ≡ octets ++ back) × takes old [] new)
    ⊎ ((more : List ℕ) × (octets ≡ front ++ more) × (back ≡ []) × takes old more new)
TakesFrom takes front _ octets back _ = ⊥

-- The bytes that the input returns between two states.
abbrev pub Takes : {R : Type 0} → (R → List ℕ → R → Type 0) → FileInput R → List ℕ → FileInput R
    → Type 0
Takes takes a octets b = TakesFrom takes (front_of a) (rest_of a) octets (front_of b) (rest_of b)

-- The last read met the end: all bytes in memory were read, and the other input has ended.
abbrev pub RestHasEnded : {R : Type 0} → (R → Type 0) → Option R → Type 0
RestHasEnded is_ended None = Unit {0}
RestHasEnded is_ended (Some rest) = is_ended rest

-- The last read met the end of the input.
abbrev pub HasEnded : {R : Type 0} → (R → Type 0) → FileInput R → Type 0
HasEnded is_ended input =
    IsTrue input.has_ended × (front_of input ≡ []) × RestHasEnded is_ended (rest_of input)

-- The number of reads of the other input that failed.
abbrev pub rest_failures : {R : Type 0} → (R → ℕ) → Option R → ℕ
rest_failures failures None = 0
rest_failures failures (Some rest) = failures rest

-- The number of reads that failed.
abbrev pub failures_of : {R : Type 0} → (R → ℕ) → FileInput R → ℕ
failures_of failures input = rest_failures failures (rest_of input)

-- The laws of inputs: nothing is read between a state and itself, and the bytes of two runs are
-- concatenated.
abbrev is_nonempty : List ℕ → Type 0
is_nonempty [] = ⊥
is_nonempty (x ∷ xs) = Unit {0}

both_empty : (first second : List ℕ) → first ++ second ≡ [] → (first ≡ []) × (second ≡ [])
both_empty [] second e = (refl, e)
both_empty (x ∷ first) second e = absurd (subst is_nonempty e tt)

module _ {R : Type 0} (takes : R → List ℕ → R → Type 0) where
  module _ (nothing : (a : R) → takes a [] a) where
    nothing_from : (front : List ℕ) (rest : Option R) → TakesFrom takes front rest [] front rest
    nothing_from front None = refl
    nothing_from front (Some rest) = inl (refl, nothing rest)

    pub takes_nothing : (a : FileInput R) → Takes takes a [] a
    takes_nothing a = nothing_from (front_of a) (rest_of a)

  module _ (in_turn : (a b c : R) (first second : List ℕ) → takes a first b → takes b second c
      → takes a (first ++ second) c) where
    in_turn_from : (f g h : List ℕ) (a b c : Option R) (first second : List ℕ)
        → TakesFrom takes f a first g b → TakesFrom takes g b second h c
        → TakesFrom takes f a (first ++ second) h c
    in_turn_from f g h None None None first second p q =
        p ∙ ap (λ x. first ++ x) q ∙ sym (append_assoc first second h)
    in_turn_from f g h (Some a) (Some b) (Some c) first second (inl p) (inl q) =
        inl (
          p.0 ∙ ap (λ x. first ++ x) q.0 ∙ sym (append_assoc first second h),
          in_turn a b c [] [] p.1 q.1,
        )
    in_turn_from f g h (Some a) (Some b) (Some c) first second (inl p) (inr q) =
        inr (
          q.0,
          ap (λ x. first ++ x) q.1 ∙ sym (append_assoc first g q.0) ∙ ap (λ x. x ++ q.0) (sym p.0),
          q.2,
          in_turn a b c [] q.0 p.1 q.3,
        )
    in_turn_from f g h (Some a) (Some b) (Some c) first second (inr p) (inl q) =
        let none = both_empty second h (sym q.0 ∙ p.2) in
        inr (
          p.0,
          ap (λ x. first ++ x) none.0 ∙ append-nil first ∙ p.1,
          none.1,
          subst (λ x. takes a x c) (append-nil p.0) (in_turn a b c p.0 [] p.3 q.1),
        )
    in_turn_from f g h (Some a) (Some b) (Some c) first second (inr p) (inr q) =
        inr (
          p.0 ++ q.0,
          ap (λ x. x ++ second) p.1 ∙ append_assoc f p.0 second
              ∙ ap (λ x. f ++ (p.0 ++ x)) (q.1 ∙ ap (λ x. x ++ q.0) p.2),
          q.2,
          in_turn a b c p.0 q.0 p.3 q.3,
        )
    in_turn_from f g h None (Some b) c first second p q = absurd p
    in_turn_from f g h (Some a) None c first second p q = absurd p
    in_turn_from f g h None None (Some c) first second p q = absurd q
    in_turn_from f g h (Some a) (Some b) None first second p q = absurd q

    pub takes_in_turn : (a b c : FileInput R) (first second : List ℕ) → Takes takes a first b
        → Takes takes b second c → Takes takes a (first ++ second) c
    takes_in_turn a b c first second p q =
        in_turn_from (front_of a) (front_of b) (front_of c) (rest_of a) (rest_of b) (rest_of c)
        first second p q
