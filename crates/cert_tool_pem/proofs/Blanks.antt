-- White space at the end of a line is removed.
use Rattle.std.proofs.Common.{◌≡◌, ℕ, ◌+◌, ◌-◌, ◌<◌, ◌≤◌, Bool, true, false, List, [], ◌∷◌, ◌++◌, length, take, get_or, refl, ap, sym, ◌∙◌, arith}
use Rattle.std.proofs.lemmas.List.{take_more}
use Rattle.cert_tool_pem.specs.Pem.{before_blanks, before_rest, is_blank}

without_blank : (xs : List ℕ) (b : ℕ) → is_blank b ≡ true → before_blanks (xs ++ b ∷ []) ≡ before_blanks xs
without_blank [] b e = rw e refl
without_blank (x ∷ xs) b e = ap (before_rest x) (without_blank xs b e)

rest_kept : (x b : ℕ) (xs : List ℕ) → before_rest x (xs ++ b ∷ []) ≡ x ∷ (xs ++ b ∷ [])
rest_kept x b [] = refl
rest_kept x b (y ∷ ys) = refl

with_other : (xs : List ℕ) (b : ℕ) → is_blank b ≡ false → before_blanks (xs ++ b ∷ []) ≡ xs ++ b ∷ []
with_other [] b e = rw e refl
with_other (x ∷ xs) b e = ap (before_rest x) (with_other xs b e) ∙ rest_kept x b xs

last_of : (line : List ℕ) (end d : ℕ) → 0 < end → end ≤ length line → take end line ≡ take (end - 1) line ++ get_or line (end - 1) d ∷ []
last_of line end d some within =
    let next : end ≡ (end - 1) + 1 = omega arith in
    ap (λ n. take n line) next ∙ take_more line (end - 1) d (omega arith)

-- A test with the result `false`.
pub not_so : (r b : Bool) → r ≡ b → r ≡ false → b ≡ false
not_so r b e is = sym e ∙ is

-- One white space at the end is removed.
pub less : (line : List ℕ) (end d : ℕ) → 0 < end → end ≤ length line → is_blank (get_or line (end - 1) d) ≡ true → before_blanks (take (end - 1) line) ≡ before_blanks (take end line)
less line end d some within e = sym (ap before_blanks (last_of line end d some within) ∙ without_blank (take (end - 1) line) (get_or line (end - 1) d) e)

-- A line that doesn't end with white space is unchanged.
pub kept : (line : List ℕ) (end d : ℕ) → 0 < end → end ≤ length line → is_blank (get_or line (end - 1) d) ≡ false → before_blanks (take end line) ≡ take end line
kept line end d some within e =
    let last = last_of line end d some within in
    ap before_blanks last ∙ with_other (take (end - 1) line) (get_or line (end - 1) d) e ∙ sym last
