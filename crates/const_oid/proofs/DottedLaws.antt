-- Lemmas about writing the dotted text: the pieces that are written are its arcs and dots.
use Rattle.std.proofs.Common.{◌≡◌, ℕ, ◌+◌, ◌/◌, ◌%◌, ◌^◌, ◌<◌, ◌≤◌, List, [], ◌∷◌, ◌++◌, map, sym, refl, ap, ◌∙◌, arith}
use Rattle.std.specs.List.{flat_map}
use Rattle.std.specs.Fmt as fmt
use Rattle.std.proofs.lemmas.List.{map-append}
use Rattle.std.proofs.lemmas.Fmt.{decimal_by_steps_wide}
use Rattle.const_oid.specs.Digits.{digits}
use Rattle.const_oid.specs.DottedText.{decimal, dot_decimal, dotted}
use Rattle.const_oid.proofs.DigitLaws.{digits-one, digits-more}

pub decimal-one : (n : ℕ) → n < 10 → decimal n ≡ (48 + n) ∷ []
unfolding decimal
decimal-one n l = ap (map (λ d. 48 + d)) (digits-one 10 n l)

pub ruleset one_digit = (decimal-one)

pub decimal-more : (n : ℕ) → 10 ≤ n → decimal n ≡ decimal (n / 10) ++ ((48 + n % 10) ∷ [])
unfolding decimal
decimal-more n l = ap (map (λ d. 48 + d)) (digits-more 10 n (omega arith) l) ∙ map-append (λ d. 48 + d) (digits 10 (n / 10)) (n % 10 ∷ [])

-- The standard library writes a number as its decimal digits.
pub written_decimal : (n : ℕ) → n < 10 ^ 64 → fmt.decimal n ≡ decimal n
written_decimal n l =
    decimal_by_steps_wide (λ n ds. ds ≡ decimal n) (λ n l. sym (decimal-one n l)) (λ n ds l e. ap (λ t. t ++ ((48 + n % 10) ∷ [])) e ∙ sym (decimal-more n l)) n l

pub written_dot : (n : ℕ) → n < 10 ^ 64 → 46 ∷ fmt.decimal n ≡ dot_decimal n
unfolding dot_decimal
written_dot n l = ap (λ t. 46 ∷ t) (written_decimal n l)

-- A dot, followed by a number of one or two digits.
pub dot-one : (n : ℕ) → n < 10 → dot_decimal n ≡ 46 ∷ (48 + n) ∷ []
unfolding dot_decimal
dot-one n l = ap (λ t. 46 ∷ t) (decimal-one n l)

pub dot-two : (n : ℕ) → 10 ≤ n → n < 100 → dot_decimal n ≡ 46 ∷ (48 + n / 10) ∷ (48 + n % 10) ∷ []
unfolding dot_decimal
dot-two n l few = ap (λ t. 46 ∷ t) (decimal-more n l ∙ ap (λ t. t ++ ((48 + n % 10) ∷ [])) (decimal-one (n / 10) (omega arith)))

pub ruleset short_dots = (dot-one, dot-two)

pub dotted-cons : (a : ℕ) (arcs : List ℕ) → dotted (a ∷ arcs) ≡ decimal a ++ flat_map dot_decimal arcs
unfolding dotted
dotted-cons a arcs = refl

pub dotted-nil : (arcs : List ℕ) → arcs ≡ [] → dotted arcs ≡ []
unfolding dotted
dotted-nil [] e = refl
dotted-nil (x ∷ arcs) e = cc
