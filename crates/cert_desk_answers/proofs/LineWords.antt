-- Laws about the words of a question's line, and about its LF.
use Rattle.std.proofs.Common.{◌≡◌, ℕ, zero, suc, ◌/◌, ◌%◌, ◌<◌, ◌≤◌, Bool, true, false, cond, List, [], ◌∷◌, length, decimal, None, Some, Option, refl, arith}
use Rattle.std.specs.Prelude.{◌==◌, All, slice_index, nat_lt}
use Rattle.std.specs.List.{AllByRecursion, list_all}
use Rattle.std.specs.Fmt.{digits, digits_onto, digit_glyph}
use Rattle.std.proofs.lemmas.Bool.{and_parts, and_from, ltb-true, leb-true, ne_eqb}
use Rattle.std.proofs.lemmas.Bool.Decides.{nat_tests}
use Rattle.std.proofs.lemmas.List.Elements.{All-from_recursion}
use Rattle.cert_desk_checking.specs.Der.Octets.{IsOctets}
use Rattle.hex.specs.Hex.{encode_lower, encode_with, lower_digits}
use Rattle.cert_desk_checking.specs.QuestionLines.{anchor_word}
use Rattle.cert_desk_answers.specs.AnswerLines.{is_anchor, is_digit, is_number}

-- Each byte is greater than this one.
abbrev pub Above : ℕ → List ℕ → Type 0
Above low w = AllByRecursion (λ x. low < x) w

-- A word contains neither space nor LF, and doesn't begin with `#`, because all of its bytes are
-- greater than 44.
abbrev pub IsWord : List ℕ → Type 0
IsWord w = Above 44 w

pub above_lower : (low lower : ℕ) (w : List ℕ) → lower ≤ low → Above low w → Above lower w
above_lower low lower [] h each = tt
above_lower low lower (x ∷ w) h each = (let first = each.0 in omega arith, above_lower low lower w h each.1)

-- No byte of the word is one that isn't greater.
pub none_is : (low c : ℕ) (w : List ℕ) → c ≤ low → Above low w → All (λ x. (x == c) ≡ false) w
none_is low c w h each = All-from_recursion (λ x. (x == c) ≡ false) w (go w each)
  where
    go : (v : List ℕ) → Above low v → AllByRecursion (λ x. (x == c) ≡ false) v
    go [] a = tt
    go (x ∷ v) a = (let first = a.0 in ne_eqb x c (λ e. omega arith), go v a.1)

-- Each byte is greater than this one, if each byte passes a test.
above_by : (test : ℕ → Bool) (low : ℕ) → ((x : ℕ) → test x ≡ true → low < x) → (w : List ℕ) → list_all test w ≡ true → Above low w
above_by test low is [] h = tt
above_by test low is (x ∷ w) h =
    let both = and_parts (test x) (list_all test w) h in
    (is x both.0, above_by test low is w both.1)

-- Numbers.

all_digits_of : (b : Bool) (v w : List ℕ) → list_all is_digit v ≡ true → list_all is_digit w ≡ true → list_all is_digit (cond b v w) ≡ true
all_digits_of true v w h k = h
all_digits_of false v w h k = k

a_digit : (d : ℕ) → d < 10 → is_digit (digit_glyph false d) ≡ true
a_digit d h = grind (arith, nat_tests)

all_digits : (k n : ℕ) (behind : List ℕ) → list_all is_digit behind ≡ true → list_all is_digit (digits_onto k 10 false n behind) ≡ true
all_digits zero n behind h = h
all_digits (suc k) n behind h =
    let more = and_from (is_digit (digit_glyph false (n % 10))) (list_all is_digit behind) (a_digit (n % 10) (omega arith)) h in
    all_digits_of ((n / 10) == 0) (digit_glyph false (n % 10) ∷ behind) (digits_onto k 10 false (n / 10) (digit_glyph false (n % 10) ∷ behind)) more
    (all_digits k (n / 10) (digit_glyph false (n % 10) ∷ behind) more)

some_of : (b : Bool) (v w : List ℕ) → 0 < length v → 0 < length w → 0 < length (cond b v w)
some_of true v w h k = h
some_of false v w h k = k

some_digits : (k n : ℕ) (behind : List ℕ) → 0 < length behind → 0 < length (digits_onto k 10 false n behind)
some_digits zero n behind h = h
some_digits (suc k) n behind h =
    some_of ((n / 10) == 0) (digit_glyph false (n % 10) ∷ behind) (digits_onto k 10 false (n / 10) (digit_glyph false (n % 10) ∷ behind)) (omega arith)
    (some_digits k (n / 10) (digit_glyph false (n % 10) ∷ behind) (omega arith))

number_by : (w : List ℕ) → 0 < length w → list_all is_digit w ≡ true → is_number w ≡ true
number_by [] h k = absurd (omega arith)
number_by (x ∷ w) h k = k

onto_number : (k n : ℕ) → is_number (digits_onto (suc k) 10 false n []) ≡ true
onto_number k n =
    number_by (digits_onto (suc k) 10 false n [])
    (some_of ((n / 10) == 0) (digit_glyph false (n % 10) ∷ []) (digits_onto k 10 false (n / 10) (digit_glyph false (n % 10) ∷ [])) (omega arith)
    (some_digits k (n / 10) (digit_glyph false (n % 10) ∷ []) (omega arith)))
    (all_digits (suc k) n [] refl)

pub decimal_number : (n : ℕ) → is_number (decimal n) ≡ true
unfolding digits
decimal_number n = onto_number 63 n

number_word : (w : List ℕ) → is_number w ≡ true → IsWord w
number_word [] h = tt
number_word (x ∷ w) h = above_by is_digit 44 (λ y k. let a = leb-true 48 y (and_parts _ _ k).0 in omega arith) (x ∷ w) h

some_number : (w : List ℕ) → is_number w ≡ true → 0 < length w
some_number [] h = absurd cc
some_number (x ∷ w) h = omega arith

pub decimal_some : (n : ℕ) → 0 < length (decimal n)
decimal_some n = some_number (decimal n) (decimal_number n)

pub decimal_word : (n : ℕ) → IsWord (decimal n)
decimal_word n = number_word (decimal n) (decimal_number n)

-- Indexes of trust anchors.

pub anchor_is : (anchor : Option ℕ) → is_anchor (anchor_word anchor) ≡ true
anchor_is None = refl
anchor_is (Some number) = grind (arith, nat_tests, decimal_number number)

pub anchor_is_word : (anchor : Option ℕ) → IsWord (anchor_word anchor)
anchor_is_word None = (omega arith, tt)
anchor_is_word (Some number) = decimal_word number

-- Base 16.

digit_above : (w : List ℕ) (i : ℕ) → IsWord w → i < length w → 44 < slice_index w i
digit_above [] i each h = absurd (omega arith)
digit_above (x ∷ w) zero each h = each.0
digit_above (x ∷ w) (suc i) each h = digit_above w i each.1 (omega arith)

lower_digit : (i : ℕ) → i < 16 → 44 < slice_index lower_digits i
lower_digit i h = digit_above lower_digits i (above_by (nat_lt 44) 44 (λ x k. ltb-true 44 x k) lower_digits refl) h

pub hex_word : (w : List ℕ) → IsOctets w → IsWord (encode_lower w)
unfolding encode_with
hex_word [] h = tt
hex_word (b ∷ w) h =
    let octet = h.0 in
    (lower_digit (b / 16) (omega arith), (lower_digit (b % 16) (omega arith), hex_word w h.1))
