-- The text of a JSON string, extended character by character, and that of a text without escapes.
use Rattle.std.proofs.Common.{◌≡◌, ℕ, ◌<◌, arith, true, false, Bool, ◌&&◌, List, [], ◌∷◌, ◌++◌, length, IsUtf8, chars, encode_utf8, flat_map, refl, ap, sym, ◌∙◌}
use Rattle.std.specs.List.{list_all}
use Rattle.std.proofs.lemmas.Bool.Decides.{nat_tests}
use Rattle.std.proofs.lemmas.List.{nil_from_length}
use Rattle.std.proofs.lemmas.Str.{IsUtf8-past_char, chars_past_char, chars-nil, encode_ascii}
use Rattle.cert_tool.specs.JsonTexts.{is_plain, letter_text, escaped_text}

pub escaped_text-empty : (text : List ℕ) → length text ≡ 0 → escaped_text text ≡ []
unfolding escaped_text
escaped_text-empty text none = ap (flat_map letter_text) (ap chars (nil_from_length text none) ∙ chars-nil)

pub escaped_text-step : (text rest : List ℕ) (c : ℕ) → IsUtf8 text → text ≡ encode_utf8 c ++ rest → escaped_text text ≡ letter_text c ++ escaped_text rest
unfolding escaped_text
escaped_text-step text rest c utf8 parts = ap (flat_map letter_text) (chars_past_char text rest c utf8 parts)

below_128 : (c : ℕ) → is_plain c ≡ true → c < 128
below_128 c plain = grind (arith, nat_tests, plain)

both : (a b : Bool) → (a && b) ≡ true → (a ≡ true) × (b ≡ true)
both true true e = (refl, refl)
both true false e = absurd cc
both false b e = absurd cc

pub escaped_text-plain : (text : List ℕ) → IsUtf8 text → list_all is_plain text ≡ true → escaped_text text ≡ text
escaped_text-plain [] utf8 plain = escaped_text-empty [] refl
escaped_text-plain (c ∷ rest) utf8 plain =
    let each = both (is_plain c) (list_all is_plain rest) plain in
    let parts : c ∷ rest ≡ encode_utf8 c ++ rest = ap (λ (x : List ℕ). x ++ rest) (sym (encode_ascii c (below_128 c each.0))) in
    let letter : letter_text c ≡ c ∷ [] = rw each.0 refl in
    escaped_text-step (c ∷ rest) rest c utf8 parts ∙ ap (λ (x : List ℕ). x ++ escaped_text rest) letter
    ∙ ap (λ (x : List ℕ). c ∷ x) (escaped_text-plain rest (IsUtf8-past_char (c ∷ rest) rest c utf8 parts) each.1)
