-- Lemmas for printing values: a printed value represents the value's bytes, and none of its
-- characters is an unescaped separator.
use Rattle.std.proofs.Common.{◌≡◌, ◌≢◌, ℕ, zero, suc, ◌+◌, ◌*◌, ◌/◌, ◌%◌, ◌<◌, ◌≤◌, ◌==◌, ◌&&◌, ◌||◌, not, List, [], ◌∷◌, ◌++◌, length, length-append, take, get_or, Bool, true, false, refl, sym, ap, ◌∙◌, subst, append_assoc, append-nil, ne_eqb, arith, inl, inr, Some, Ok, slice_index, chars, IsUtf8, nat_lt, encode_utf8, if◌then◌else◌}
use Rattle.std.specs.Fmt.{digit_glyph}
use Rattle.std.specs.List.{AllByRecursion}
use Rattle.std.proofs.lemmas.Bool.{and_parts, and_right, true≢false, cases_eq, cases_lt, eqb-true, eqb-false}
use Rattle.std.proofs.lemmas.Bool.Decides.{nat_tests}
use Rattle.std.proofs.lemmas.List.{same_from_push}
use Rattle.std.proofs.lemmas.Str.{char_from_byte, encode_ascii, encodes-chars, length-encode, len_utf8_bounds}
use lib.Utf8.{encode, encodes}
use Rattle.hex.specs.Hex.{hex_digit_value, lower_digits, encode_with, encode_lower, IsBytes}
use Rattle.hex.proofs.HexLemmas.{decode_of-encode_lower}
use Rattle.der_core.specs.Octets.{IsOctets}
use Rattle.x509_cert_name_texts.specs.Escapes.{is_sign, is_escaped_sign, is_control, hex_digits, is_end, escaped_char, escaped_from, escaped, IsString, in_hex, of_hex, hex_octets, StandsFor}
use Rattle.x509_cert_name_texts.specs.Pieces.{Counts, HasNone}
use Rattle.x509_cert_name_texts.proofs.PieceSteps.{is_escaped, is_escaped-push, counts_where_closed, closed_where_counts}

-- A character that is printed only in a pair.
abbrev pub is_paired : ℕ → Bool
is_paired c = is_escaped_sign c || (c == 0)

-- A byte that is printed without a backslash before it.
abbrev pub IsPlain : ℕ → Type 0
IsPlain c = is_paired c ≡ false

not_backslash : (c : ℕ) → IsPlain c → c ≢ 92
not_backslash c p e = let q : true ≡ false = subst IsPlain e p in true≢false q

-- These bytes contain no unescaped separator, and no escape begins at their end.
pub data Calm (s : ℕ) : List ℕ → Type 0 where
  end : Calm s []
  plain : (c : ℕ) (w : List ℕ) → c ≢ 92 → c ≢ s → Calm s w → Calm s (c ∷ w)
  pair : (c : ℕ) (w : List ℕ) → Calm s w → Calm s (92 ∷ c ∷ w)

pub calm-append : (s : ℕ) {v : List ℕ} (w : List ℕ) → Calm s v → Calm s w → Calm s (v ++ w)
calm-append s w Calm.end k = k
calm-append s w (Calm.plain c v n m h) k = Calm.plain c (v ++ w) n m (calm-append s w h k)
calm-append s w (Calm.pair c v h) k = Calm.pair c (v ++ w) (calm-append s w h k)

plain_push : (u : List ℕ) (c : ℕ) → c ≢ 92 → is_escaped (u ++ (c ∷ [])) ≡ false
plain_push u c n = is_escaped-push u c ∙ ap (λ b. b && not (is_escaped u)) (ne_eqb c 92 n)

open_push : (u : List ℕ) → is_escaped u ≡ false → is_escaped (u ++ (92 ∷ [])) ≡ true
open_push u o = is_escaped-push u 92 ∙ ap not o

pair_push : (u : List ℕ) (c : ℕ) → is_escaped u ≡ false → is_escaped ((u ++ (92 ∷ [])) ++ (c ∷ [])) ≡ false
pair_push u c o = is_escaped-push (u ++ (92 ∷ [])) c ∙ and_right (c == 92) (not (is_escaped (u ++ (92 ∷ [])))) (ap not (open_push u o))

regroup : (u w : List ℕ) (c : ℕ) → (u ++ (c ∷ [])) ++ w ≡ u ++ (c ∷ w)
regroup u w c = append_assoc u (c ∷ []) w

regroup_pair : (u w : List ℕ) (c : ℕ) → ((u ++ (92 ∷ [])) ++ (c ∷ [])) ++ w ≡ u ++ (92 ∷ c ∷ w)
regroup_pair u w c = regroup (u ++ (92 ∷ [])) w c ∙ regroup u (c ∷ w) 92

module _ (s : ℕ) (other : s ≢ 92) where
  calm_at : (u : List ℕ) {w : List ℕ} → Calm s w → is_escaped u ≡ false → (i : ℕ) → i < length w → get_or w i 0 ≡ s → is_escaped (u ++ take i w) ≡ false → ⊥
  calm_at u Calm.end o i l e f = omega (arith, l)
  calm_at u (Calm.plain c w n m h) o zero l e f = m e
  calm_at u (Calm.plain c w n m h) o (suc i) l e f = calm_at (u ++ (c ∷ [])) h (plain_push u c n) i (omega (arith, l)) e (ap is_escaped (regroup u (take i w) c) ∙ f)
  calm_at u (Calm.pair c w h) o zero l e f = other (sym e)
  calm_at u (Calm.pair c w h) o (suc zero) l e f = true≢false (sym (open_push u o) ∙ f)
  calm_at u (Calm.pair c w h) o (suc (suc i)) l e f =
      calm_at ((u ++ (92 ∷ [])) ++ (c ∷ [])) h (pair_push u c o) i (omega (arith, l)) e (ap is_escaped (regroup_pair u (take i w) c) ∙ f)

  calm_closed : (u : List ℕ) {w : List ℕ} → Calm s w → is_escaped u ≡ false → is_escaped (u ++ w) ≡ false
  calm_closed u Calm.end o = ap is_escaped (append-nil u) ∙ o
  calm_closed u (Calm.plain c w n m h) o = sym (ap is_escaped (regroup u w c)) ∙ calm_closed (u ++ (c ∷ [])) h (plain_push u c n)
  calm_closed u (Calm.pair c w h) o = sym (ap is_escaped (regroup_pair u w c)) ∙ calm_closed ((u ++ (92 ∷ [])) ++ (c ∷ [])) h (pair_push u c o)

  pub calm : (w : List ℕ) → Calm s w → HasNone s w × Counts w
  calm w h = (λ i l e k. calm_at [] h refl i l e (closed_where_counts (take i w) k), counts_where_closed w (calm_closed [] h refl))

-- The bytes of a character.

high_plain : (x : ℕ) → 128 ≤ x → IsPlain x
high_plain x le = grind (arith, nat_tests)

high : (b k : ℕ) → 128 ≤ b → IsPlain (b + k)
high b k le = high_plain (b + k) (omega (arith, le))

encode_plain : (c : ℕ) → IsPlain c → AllByRecursion IsPlain (encode c)
unfolding encode
encode_plain c p = by (nat_lt c 128) (nat_lt c 2048) (nat_lt c 65536)
  where
    by : (x y z : Bool)
        → AllByRecursion IsPlain (if x then c ∷ [] else if y then (192 + c / 64) ∷ (128 + c % 64) ∷ [] else if z then (224 + c / 4096) ∷ (128 + c / 64 % 64) ∷ (128 + c % 64) ∷ [] else (240 + c / 262144) ∷ (128 + c / 4096 % 64) ∷ (128 + c / 64 % 64) ∷ (128 + c % 64) ∷ [])
    by true y z = (p, tt)
    by false true z = (high 192 (c / 64) (omega arith), (high 128 (c % 64) (omega arith), tt))
    by false false true = (high 224 (c / 4096) (omega arith), (high 128 (c / 64 % 64) (omega arith), (high 128 (c % 64) (omega arith), tt)))
    by false false false = (high 240 (c / 262144) (omega arith), (high 128 (c / 4096 % 64) (omega arith), (high 128 (c / 64 % 64) (omega arith), (high 128 (c % 64) (omega arith), tt))))

pub stands_plain : (w rest octets : List ℕ) → AllByRecursion IsPlain w → StandsFor rest octets → StandsFor (w ++ rest) (w ++ octets)
stands_plain [] rest octets p h = h
stands_plain (c ∷ w) rest octets p h = StandsFor.plain c (w ++ rest) (w ++ octets) (not_backslash c p.0) (stands_plain w rest octets p.1 h)

pub calm_plain : (s : ℕ) → is_paired s ≡ true → (w : List ℕ) → AllByRecursion IsPlain w → Calm s w
calm_plain s sign [] p = Calm.end
calm_plain s sign (c ∷ w) p =
    let apart : c ≢ s = λ e. true≢false (sym sign ∙ ap is_paired (sym e) ∙ p.0) in
    Calm.plain c w (not_backslash c p.0) apart (calm_plain s sign w p.1)

-- Hexadecimal digits.

pub glyph_plain : (d : ℕ) → d < 16 → IsPlain (digit_glyph false d)
glyph_plain d lt = grind (arith, nat_tests)

pub glyph_read : (d : ℕ) → d < 16 → hex_digit_value (digit_glyph false d) ≡ Some d
glyph_read d lt = grind (arith, nat_tests)

-- A printed character.

abbrev has_backslash : Bool → Bool → ℕ → Bool
has_backslash first last c = is_escaped_sign c || ((c == 35) && first) || ((c == 32) && (first || last))

sign_is : (first last : Bool) (c : ℕ) → has_backslash first last c ≡ true → is_sign c ≡ true
sign_is first last c e = grind (arith, nat_tests)

bare_plain : (first last : Bool) (c : ℕ) → has_backslash first last c ≡ false → is_control c ≡ false → IsPlain c
bare_plain first last c e f = grind (arith, nat_tests)

sign_small : (c : ℕ) → is_sign c ≡ true → c < 128
sign_small c e = grind (arith, nat_tests)

control_small : (c : ℕ) → is_control c ≡ true → c < 128
control_small c e = grind (arith, nat_tests)

stands_hex : (c : ℕ) (rest octets : List ℕ) → c < 128 → StandsFor rest octets → StandsFor (92 ∷ hex_digits c ++ rest) (c ∷ octets)
stands_hex c rest octets lt h =
    let whole : c / 16 * 16 + c % 16 ≡ c = omega arith in
    let P : ℕ → Type 0 = λ o. StandsFor (92 ∷ hex_digits c ++ rest) (o ∷ octets) in
    subst P whole
    (StandsFor.hexpair (digit_glyph false (c / 16)) (digit_glyph false (c % 16)) (c / 16) (c % 16) rest octets (glyph_read (c / 16) (omega arith)) (glyph_read (c % 16) (omega arith)) h)

stands_char : (first last : Bool) (c : ℕ) (rest octets : List ℕ) → StandsFor rest octets → StandsFor (escaped_char first last c ++ rest) (encode c ++ octets)
stands_char first last c rest octets h = by (has_backslash first last c) (is_control c) refl refl
  where
    by : (a b : Bool) → has_backslash first last c ≡ a → is_control c ≡ b → StandsFor ((if a then 92 ∷ c ∷ [] else if b then 92 ∷ hex_digits c else encode_utf8 c) ++ rest) (encode c ++ octets)
    by true b e f =
        let sign = sign_is first last c e in
        rw (encode_ascii c (sign_small c sign)) (StandsFor.sign c rest octets sign h)
    by false true e f = rw (encode_ascii c (control_small c f)) (stands_hex c rest octets (control_small c f) h)
    by false false e f = stands_plain (encode c) rest octets (encode_plain c (bare_plain first last c e f)) h

calm_char : (s : ℕ) → is_paired s ≡ true → (first last : Bool) (c : ℕ) (w : List ℕ) → Calm s w → Calm s (escaped_char first last c ++ w)
calm_char s sign first last c w h = by (has_backslash first last c) (is_control c) refl refl
  where
    by : (a b : Bool) → has_backslash first last c ≡ a → is_control c ≡ b → Calm s ((if a then 92 ∷ c ∷ [] else if b then 92 ∷ hex_digits c else encode_utf8 c) ++ w)
    by true b e f = Calm.pair c w h
    by false true e f =
        let small = control_small c f in
        Calm.pair (digit_glyph false (c / 16)) _ (calm-append s w (calm_plain s sign (digit_glyph false (c % 16) ∷ []) (glyph_plain (c % 16) (omega arith), tt)) h)
    by false false e f = calm-append s w (calm_plain s sign (encode c) (encode_plain c (bare_plain first last c e f))) h

-- A printed value.

stands_from : (first : Bool) (cs : List ℕ) → StandsFor (escaped_from first cs) (encodes cs)
stands_from first [] = StandsFor.end
stands_from first (c ∷ cs) = stands_char first (is_end cs) c (escaped_from false cs) (encodes cs) (stands_from false cs)

pub stands_text : (w : List ℕ) → IsUtf8 w → StandsFor (escaped (chars w)) w
stands_text w u = subst (StandsFor (escaped (chars w))) (encodes-chars w u) (stands_from true (chars w))

pub calm_from : (s : ℕ) → is_paired s ≡ true → (first : Bool) (cs : List ℕ) → Calm s (escaped_from first cs)
calm_from s sign first [] = Calm.end
calm_from s sign first (c ∷ cs) = calm_char s sign first (is_end cs) c (escaped_from false cs) (calm_from s sign false cs)

-- A printed value doesn't begin with # or a space.
begins : (x y : ℕ) (v w : List ℕ) → x ∷ v ≡ y ∷ w → x ≡ y
begins x y v w e = ap (λ (u : List ℕ). get_or u 0 0) e

not_first : (last : Bool) (c : ℕ) → has_backslash true last c ≡ false → (c == 35 || c == 32) ≡ false
not_first last c e = grind (arith, nat_tests)

first_char : (s : ℕ) → (s == 35 || s == 32) ≡ true → (cs w : List ℕ) → escaped_from true cs ≢ s ∷ w
first_char s sign [] w = λ e. cc e
first_char s sign (c ∷ cs) w = by (has_backslash true (is_end cs) c) (is_control c) refl
  where
    small : s < 128
    small = grind (arith, nat_tests)

    not_backslash_is : 92 ≡ s → ⊥
    not_backslash_is e = grind (arith, nat_tests)

    by : (a b : Bool) → has_backslash true (is_end cs) c ≡ a → (if a then 92 ∷ c ∷ [] else if b then 92 ∷ hex_digits c else encode_utf8 c) ++ escaped_from false cs ≢ s ∷ w
    by true b e f = not_backslash_is (begins 92 s _ w f)
    by false true e f = not_backslash_is (begins 92 s _ w f)
    by false false e f =
        let is = char_from_byte (s ∷ w) (escaped_from false cs) c (sym f) small (omega arith) in
        true≢false (sym sign ∙ ap (λ k. k == 35 || k == 32) (sym is) ∙ not_first (is_end cs) c e)

pub no_hash : (cs w : List ℕ) → escaped_from true cs ≢ 35 ∷ w
no_hash cs w = first_char 35 refl cs w

-- A text that doesn't end with an unescaped space: each unescaped space comes before another byte.
data Tidy : List ℕ → Type 0 where
  end : Tidy []
  plain : (c : ℕ) (w : List ℕ) → c ≢ 92 → (w ≡ [] → c ≢ 32) → Tidy w → Tidy (c ∷ w)
  pair : (c : ℕ) (w : List ℕ) → Tidy w → Tidy (92 ∷ c ∷ w)

tidy_last : (u : List ℕ) {t : List ℕ} → Tidy t → t ≢ [] → is_escaped u ≡ false → (w : List ℕ) → u ++ t ≡ w ++ (32 ∷ []) → is_escaped w ≡ false → ⊥
tidy_last u Tidy.end some o w e k = some refl
tidy_last u (Tidy.plain c [] n m h) some o w e k = m refl (same_from_push u w c 32 e).1
tidy_last u (Tidy.plain c (d ∷ t) n m h) some o w e k = tidy_last (u ++ (c ∷ [])) h (λ z. cc z) (plain_push u c n) w (regroup u (d ∷ t) c ∙ e) k
tidy_last u (Tidy.pair c [] h) some o w e k =
    let same = same_from_push (u ++ (92 ∷ [])) w c 32 (regroup u (c ∷ []) 92 ∙ e) in
    true≢false (sym (open_push u o) ∙ ap is_escaped same.0 ∙ k)
tidy_last u (Tidy.pair c (d ∷ t) h) some o w e k =
    tidy_last ((u ++ (92 ∷ [])) ++ (c ∷ [])) h (λ z. cc z) (pair_push u c o) w (regroup_pair u (d ∷ t) c ∙ e) k

-- Bytes before a text that doesn't end with an unescaped space.
tidy_plain : (w t : List ℕ) → AllByRecursion IsPlain w → AllByRecursion (λ c. c ≢ 32) w → Tidy t → Tidy (w ++ t)
tidy_plain [] t p q h = h
tidy_plain (c ∷ w) t p q h = Tidy.plain c (w ++ t) (not_backslash c p.0) (λ z. q.0) (tidy_plain w t p.1 q.1 h)

encode_others : (c : ℕ) → c ≢ 32 → AllByRecursion (λ o. o ≢ 32) (encode c)
unfolding encode
encode_others c n = by (nat_lt c 128) (nat_lt c 2048) (nat_lt c 65536)
  where
    far : (b k : ℕ) → 128 ≤ b → b + k ≢ 32
    far b k le e = omega (arith, le, e)

    by : (x y z : Bool)
        → AllByRecursion (λ o. o ≢ 32) (if x then c ∷ [] else if y then (192 + c / 64) ∷ (128 + c % 64) ∷ [] else if z then (224 + c / 4096) ∷ (128 + c / 64 % 64) ∷ (128 + c % 64) ∷ [] else (240 + c / 262144) ∷ (128 + c / 4096 % 64) ∷ (128 + c / 64 % 64) ∷ (128 + c % 64) ∷ [])
    by true y z = (n, tt)
    by false true z = (far 192 (c / 64) (omega arith), (far 128 (c % 64) (omega arith), tt))
    by false false true = (far 224 (c / 4096) (omega arith), (far 128 (c / 64 % 64) (omega arith), (far 128 (c % 64) (omega arith), tt)))
    by false false false = (far 240 (c / 262144) (omega arith), (far 128 (c / 4096 % 64) (omega arith), (far 128 (c / 64 % 64) (omega arith), (far 128 (c % 64) (omega arith), tt))))

glyph_other : (d : ℕ) → d < 16 → digit_glyph false d ≢ 32
glyph_other d lt e = grind (arith, nat_tests)

not_last : (first : Bool) (c : ℕ) → has_backslash first true c ≡ false → c ≢ 32
not_last first c e f = grind (arith, nat_tests)

-- Printing a character writes at least one byte.
printed_some : (first last : Bool) (c : ℕ) (w : List ℕ) → 0 < length (escaped_char first last c ++ w)
printed_some first last c w = omega (arith, length-append (escaped_char first last c) w, by (has_backslash first last c) (is_control c))
  where
    by : (a b : Bool) → 0 < length (if a then 92 ∷ c ∷ [] else if b then 92 ∷ hex_digits c else encode_utf8 c)
    by true b = omega arith
    by false true = omega arith
    by false false = omega (arith, length-encode c, (len_utf8_bounds c).0)

tidy_char : (first : Bool) (c : ℕ) (cs : List ℕ) → Tidy (escaped_from false cs) → Tidy (escaped_char first (is_end cs) c ++ escaped_from false cs)
tidy_char first c cs h = by (has_backslash first (is_end cs) c) (is_control c) refl refl
  where
    space : (ds : List ℕ) → has_backslash first (is_end ds) c ≡ false → escaped_from false ds ≡ [] → c ≢ 32
    space [] e z = not_last first c e
    space (d ∷ ds) e z = absurd (omega (arith, ap length z, printed_some false (is_end ds) d (escaped_from false ds)))

    by : (a b : Bool) → has_backslash first (is_end cs) c ≡ a → is_control c ≡ b → Tidy ((if a then 92 ∷ c ∷ [] else if b then 92 ∷ hex_digits c else encode_utf8 c) ++ escaped_from false cs)
    by true b e f = Tidy.pair c (escaped_from false cs) h
    by false true e f =
        let small = control_small c f in
        Tidy.pair (digit_glyph false (c / 16)) _ (tidy_plain (digit_glyph false (c % 16) ∷ []) (escaped_from false cs) (glyph_plain (c % 16) (omega arith), tt) (glyph_other (c % 16) (omega arith), tt) h)
    by false false e f =
        let p = bare_plain first (is_end cs) c e f in
        elim (cases_eq c 32) [
          | inl s ↦ subst (λ k. Tidy (encode k ++ escaped_from false cs)) (sym s) (rw (encode_ascii 32 (omega arith)) (Tidy.plain 32 (escaped_from false cs) (eqb-false 32 92 refl) (λ z. absurd (space cs e z s)) h))
          | inr n ↦ tidy_plain (encode c) (escaped_from false cs) (encode_plain c p) (encode_others c n) h
        ]

tidy_from : (first : Bool) (cs : List ℕ) → Tidy (escaped_from first cs)
tidy_from first [] = Tidy.end
tidy_from first (c ∷ cs) = tidy_char first c cs (tidy_from false cs)

-- A printed value keeps the restrictions of `string` (RFC 4514 3).
pub printed_string : (cs : List ℕ) → IsString (escaped cs)
printed_string cs =
    let none : (s : ℕ) → is_paired s ≡ true → s ≢ 92 → HasNone s (escaped cs) = λ s sign other. (calm s other (escaped cs) (calm_from s sign true cs)).0 in
    let first : (s : ℕ) → (s == 35 || s == 32) ≡ true → (w : List ℕ) → escaped cs ≢ s ∷ w = λ s sign w. first_char s sign cs w in
    record {
      inside = (
        none 34 refl (eqb-false 34 92 refl),
        (
          none 43 refl (eqb-false 43 92 refl),
          (
            none 44 refl (eqb-false 44 92 refl),
            (
              none 59 refl (eqb-false 59 92 refl),
              (none 60 refl (eqb-false 60 92 refl), (none 62 refl (eqb-false 62 92 refl), (none 0 refl (eqb-false 0 92 refl), tt))),
            ),
          ),
        ),
      );
      first = λ w. (first 32 refl w, first 35 refl w);
      last = λ w e k. tidy_last [] (tidy_from true cs) (λ z. omega (arith, ap length (sym z ∙ e), length-append w (32 ∷ []))) refl w e (closed_where_counts w k);
    }

-- Bytes in hexadecimal.

abbrev is_table : ℕ → Bool
is_table d = slice_index lower_digits d == digit_glyph false d

abbrev all_table : ℕ → Bool
all_table zero = true
all_table (suc n) = is_table n && all_table n

table_at : (n d : ℕ) → all_table n ≡ true → d < n → slice_index lower_digits d ≡ digit_glyph false d
table_at zero d e lt = absurd (omega (arith, lt))
table_at (suc n) d e lt =
    let p = and_parts (is_table n) (all_table n) e in
    elim (cases_lt d n) [
      | inl below ↦ table_at n d p.1 below
      | inr top ↦ let same : n ≡ d = omega (arith, lt, top) in subst (λ k. slice_index lower_digits k ≡ digit_glyph false k) same (eqb-true _ _ p.0)
    ]

digit_is : (d : ℕ) → d < 16 → slice_index lower_digits d ≡ digit_glyph false d
digit_is d lt = table_at 16 d refl lt

hex_is : (w : List ℕ) → IsOctets w → in_hex w ≡ encode_lower w
unfolding encode_with
hex_is [] h = refl
hex_is (b ∷ w) h =
    let high = sym (digit_is (b / 16) (omega (arith, h.0))) in
    let low = sym (digit_is (b % 16) (omega arith)) in
    let more = hex_is w h.1 in
    λ i. high i ∷ low i ∷ more i

octet_bytes : (w : List ℕ) → IsOctets w → IsBytes w
octet_bytes [] h i = omega arith
octet_bytes (b ∷ w) h zero = h.0
octet_bytes (b ∷ w) h (suc i) = octet_bytes w h.1 i

pub hex_read : (w : List ℕ) → IsOctets w → hex_octets (in_hex w) ≡ Ok w
hex_read w h = ap hex_octets (hex_is w h) ∙ ap of_hex (decode_of-encode_lower w (octet_bytes w h))

pub hex_plain : (w : List ℕ) → IsOctets w → AllByRecursion IsPlain (in_hex w)
hex_plain [] h = tt
hex_plain (b ∷ w) h = (glyph_plain (b / 16) (omega (arith, h.0)), (glyph_plain (b % 16) (omega arith), hex_plain w h.1))
