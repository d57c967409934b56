-- Laws about texts that are written in several writes, and about an error within them.
use Rattle.std.proofs.Common.{◌≡◌, ℕ, ◌+◌, List, [], ◌++◌, take, drop, Result, Ok, Err, OnErr, subst, sym, ap, ◌∙◌, append-nil}
use Rattle.std.proofs.Math.Seq.{take-add}

-- A fact that holds anyway also holds after an error.
pub OnErr-by : {T E : Type 0} (r : Result T E) (P : Type 0) → P → OnErr r P
OnErr-by (Ok x) P p = tt
OnErr-by (Err e) P p = p

module _ {State : Type 0} (gives : State → List ℕ → State → Type 0)
    (in_turn : (a b c : State) (first second : List ℕ) → gives a first b → gives b second c → gives a (first ++ second) c) where
  -- If a write accepts m bytes after the first n bytes, then n + m bytes were accepted.
  pub gives-take : (a b c : State) (text rest : List ℕ) (n m : ℕ) → rest ≡ drop n text → gives a (take n text) b → gives b (take m rest) c → gives a (take (n + m) text) c
  gives-take a b c text rest n m e p q =
      let joined : take n text ++ take m rest ≡ take (n + m) text = ap (λ (x : List ℕ). take n text ++ take m x) e ∙ sym (take-add n m text) in
      subst (λ (x : List ℕ). gives a x c) joined (in_turn a b c (take n text) (take m rest) p q)

  -- If a write accepts none after the first n bytes, then n bytes were accepted.
  pub gives-none : (a b c : State) (first : List ℕ) → gives a first b → gives b [] c → gives a first c
  gives-none a b c first p q = subst (λ (x : List ℕ). gives a x c) (append-nil first) (in_turn a b c first [] p q)
