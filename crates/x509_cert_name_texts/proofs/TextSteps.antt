-- Lemmas for printing values: the characters of a text, one after another.
use Rattle.std.proofs.Common.{◌≡◌, ℕ, ◌==◌, List, [], ◌∷◌, ◌++◌, length, Bool, false, refl, sym, ap, ◌∙◌, ne_eqb, arith, append-nil, chars, IsUtf8, IsAscii}
use Rattle.std.proofs.lemmas.Str.{chars-nil, chars-IsAscii, encodes-chars, length-le-encodes}
use lib.Utf8.{encodes}
use Rattle.x509_cert_name_texts.specs.Escapes.{is_end, escaped_char, escaped_from, escaped}

by_characters : (cs w : List ℕ) → encodes cs ≡ w → is_end cs ≡ (length w == 0)
by_characters [] w e = rw (← e) refl
by_characters (c ∷ cs) w e = sym (ne_eqb (length w) 0 (λ z. absurd (omega (arith, z, length-le-encodes (c ∷ cs), ap length e))))

-- A text is empty exactly if it has no characters.
pub is_end-chars : (w : List ℕ) → IsUtf8 w → (length w == 0) ≡ is_end (chars w)
is_end-chars w u = sym (by_characters (chars w) w (encodes-chars w u))

pub escaped-step : (first last : Bool) (c : ℕ) (old new : List ℕ) → old ≡ c ∷ new → last ≡ is_end new → escaped_char first last c ++ escaped_from false new ≡ escaped_from first old
escaped-step first last c old new e l = ap (λ b. escaped_char first b c ++ escaped_from false new) l ∙ sym (ap (escaped_from first) e)

pub escaped-end : (first : Bool) (w t : List ℕ) → length w ≡ 0 → t ≡ t ++ escaped_from first (chars w)
escaped-end first [] t e = rw chars-nil (sym (append-nil t))
escaped-end first (c ∷ w) t e = absurd (omega arith)

-- A text is printed unchanged if its first character and the text after it are.
ends : (w : List ℕ) → (length w == 0) ≡ is_end w
ends [] = refl
ends (c ∷ w) = ne_eqb (length (c ∷ w)) 0 (λ z. absurd (omega (arith, z)))

pub bare-step : (first last : Bool) (c : ℕ) (v w : List ℕ) → v ≡ c ∷ w → last ≡ (length w == 0) → escaped_char first last c ≡ c ∷ [] → escaped_from false w ≡ w → escaped_from first v ≡ v
bare-step first last c v w v_is last_is bare left =
    sym (escaped-step first last c v w v_is (last_is ∙ ends w)) ∙ ap (λ (x : List ℕ). x ++ escaped_from false w) bare ∙ ap (λ (x : List ℕ). c ∷ x) left ∙ sym v_is

pub bare-end : (first : Bool) (w : List ℕ) → length w ≡ 0 → escaped_from first w ≡ w
bare-end first [] e = refl
bare-end first (c ∷ w) e = absurd (omega arith)

-- The bytes of an ASCII text are its characters.
pub ascii : (w : List ℕ) → IsAscii w → escaped w ≡ w → escaped (chars w) ≡ w
ascii w a e = ap escaped (chars-IsAscii w a) ∙ e

pub ruleset ascii_texts = (ascii)
