-- Fields with a tag of a class and a number, before the value's own tag or in its place (X.690
-- 8.14). A class is given by the class bits of the first byte of a tag (X.690 8.1.2.2).
use Rattle.std.specs.Prelude.{ℕ, ◌/◌, ◌==◌, ◌||◌, true, Ok, IsTrue}
use Rattle.der_core.specs.EncodingRulesTypes.EncodingRules.{EncodingRules}
use Rattle.der_core.specs.TagTypes.Tag.{Tag}
use Rattle.der_core.specs.TagModeTypes.TagMode.{TagMode}
use Rattle.der_core.specs.TagModeTypes.TagMode.TheVariants as modes
use Rattle.der_core.specs.Octets.{◌>>=◌, Readings}
use Rattle.der_core.specs.Tags.{class_tag, is_constructed, number_of}
use Rattle.der_core.specs.Bodies.{head_by}
use Rattle.der_core.specs.Shapes.{Shape, Content, Value, tagged, nested, only}
use Rattle.der_core.specs.Grammar.{read_by}

-- The bits of the application, context-specific or private class.
abbrev pub IsClass : ℕ → Type 0
IsClass class = IsTrue ((class == 0x40) || ((class == 0x80) || (class == 0xc0)))

-- The tag of a field. An implicit tag has the form of the value's own tag.
abbrev pub field_tag : ℕ → TagMode → ℕ → Tag → Tag
field_tag class modes.Explicit n own = class_tag (class / 64) true n
field_tag class modes.Implicit n own = class_tag (class / 64) (is_constructed own) n

-- A value with an explicit tag (X.690 8.14.2).
abbrev pub explicit_field : ℕ → ℕ → Shape → Shape
explicit_field class n s = tagged (class_tag (class / 64) true n) (nested (only s))

-- A value with an implicit tag (X.690 8.14.3).
abbrev pub implicit_field : ℕ → ℕ → Tag → Content → Shape
implicit_field class n own c = tagged (class_tag (class / 64) (is_constructed own) n) c

-- Decodes a value with an explicit tag of the class, and gives it with the number of that tag.
unfoldable pub numbered_at : EncodingRules → ℕ → (s : Shape) → ℕ → Readings (ℕ × Value s)
numbered_at rules class s room w =
    head_by rules w >>= λ h. read_by rules (explicit_field class (number_of h.0.tag) s) room w
    >>= λ x. Ok ((number_of h.0.tag, x.0), x.1)
