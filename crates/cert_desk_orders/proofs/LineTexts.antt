-- Laws about a line and its bytes.
use Rattle.std.proofs.Common.{◌≡◌, ℕ, ◌<◌, Bool, true, false, cond, List, [], Some, None, length, refl, ap, ap₂, sym, ◌∙◌, take, take_all, le_of_eq, lt-ltb, le-ltb}
use Rattle.std.specs.List.{before_first, after_first, position_or_len}
use Rattle.std.specs.Str.{IsUtf8, is_utf8}
use Rattle.std.proofs.lemmas.Str.{IsUtf8-from_is_utf8, is_utf8-from_IsUtf8}
use Rattle.cert_desk_orders.specs.OrdersFile.{PlainLine, has_blank, is_blank, line_of}

abbrev line_if : ℕ → List ℕ → Bool → Bool → PlainLine
line_if number text utf8 blank =
    cond utf8
    (record { number = number; word = before_first is_blank text; value = cond blank (Some (after_first is_blank text)) None })
    (record { number = number; word = []; value = None })

wordless : (number : ℕ) (text : List ℕ) (b : Bool) → is_utf8 text ≡ b → (IsUtf8 text → ⊥) → record { number = number; word = []; value = None } ≡ line_of number text
wordless number text true is other = absurd (other (IsUtf8-from_is_utf8 text is))
wordless number text false is other = ap (λ b. line_if number text b (has_blank text)) (sym is)

-- The bytes aren't UTF-8.
pub line_of-wordless : (number : ℕ) (text : List ℕ) → (IsUtf8 text → ⊥) → record { number = number; word = []; value = None } ≡ line_of number text
line_of-wordless number text other = wordless number text (is_utf8 text) refl other

-- The text has a space.
pub line_of-blank : (number : ℕ) (text word value : List ℕ) → IsUtf8 text → position_or_len is_blank text < length text
    → word ≡ before_first is_blank text → value ≡ after_first is_blank text
    → record { number = number; word = word; value = Some value } ≡ line_of number text
line_of-blank number text word value utf8 blank w v =
    ap₂ (λ w v. record { number = number; word = w; value = Some v }) w v
    ∙ ap₂ (line_if number text) (sym (is_utf8-from_IsUtf8 text utf8)) (sym (lt-ltb _ _ blank))

-- The text has no space.
pub line_of-alone : (number : ℕ) (text : List ℕ) → IsUtf8 text → position_or_len is_blank text ≡ length text
    → record { number = number; word = text; value = None } ≡ line_of number text
line_of-alone number text utf8 blank =
    ap (λ w. record { number = number; word = w; value = None }) (sym (ap (λ n. take n text) blank ∙ take_all (length text) text (le_of_eq refl)))
    ∙ ap₂ (line_if number text) (sym (is_utf8-from_IsUtf8 text utf8)) (sym (le-ltb _ _ (le_of_eq (sym blank))))
