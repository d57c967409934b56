-- Results of functions that decode a prefix of bytes.
use Rattle.std.specs.Prelude.{◌≡◌, ◌≤◌, ℕ, List, length, drop, Bool, false, Option, Some, None}
use Rattle.std.specs.Prelude.{Result, Ok, Err, ◌==◌, ◌&&◌}
use Rattle.der_core_head.specs.declared.error.Error.{Error}
use Rattle.der_core_head.specs.declared.error.ErrorKind.{ErrorKind}
use Rattle.der_core_head.specs.declared.class.Class.{Class}
use Rattle.der_core_head.specs.declared.tag.Tag.{Tag}
use Rattle.der_core_head.specs.Classes.{class_number, tag_class}
use Rattle.der_core_head.specs.Tags.{number_of}
use Rattle.der_core_head.specs.Octets.{Readings, ◌>>=◌}

-- The function returns what the decoder gives, under the view, and the number of bytes that it
-- decoded.
abbrev pub ReadsFront : {X P : Type 0} → (X → P) → List ℕ → Result (X × ℕ) Error → Readings P
    → Type 0
ReadsFront view w (Ok x) f = (f w ≡ Ok (view x.0, drop x.1 w)) × (x.1 ≤ length w)
ReadsFront view w (Err e) f = f w ≡ Err e.kind

-- The decoded value, without the remaining bytes.
abbrev pub alone : {P : Type 0} → Result (P × List ℕ) ErrorKind → Result P ErrorKind
alone (Ok x) = Ok x.0
alone (Err e) = Err e

-- There is a tag, and it has this class and number.
abbrev pub has_number : Class → ℕ → Option Tag → Bool
has_number class number None = false
has_number class number (Some t) = (tag_class t == class_number class) && (number_of t == number)

-- The result of a test of the next tag.
abbrev pub matches_at : Class → ℕ → Result (Option Tag) ErrorKind → Result Bool ErrorKind
matches_at class number peeked = peeked >>= λ t. Ok (has_number class number t)
