-- Tests of shapes: whether their first tags distinguish fields and alternatives, and whether a
-- number of levels of nesting is enough to decode their values.
use Rattle.std.specs.Prelude.{ℕ, zero, suc, length, Bool, true, false, ◌&&◌, ◌||◌, nat_lt, not}
use Rattle.der_core_head.specs.declared.tag.Tag.{Tag}
use Rattle.der_core_head.specs.Octets.{are_octets}
use Rattle.der_core_head.specs.Limits.{length_max, levels_max}
use Rattle.der_core_head.specs.Shapes.{Shape, Content, Body, tagged, any, either, optional}
use Rattle.der_core_head.specs.Shapes.{defaulted, nothing, leaf, nested, done, field, only, many}
use Rattle.der_core_head.specs.Shapes.{exactly, few, in_order, begins}

-- No value of the shape needs more than this number of levels of nesting.
abbrev mutual
  pub are_enough : Shape → ℕ → Bool
  are_enough (tagged t c) room = are_content_enough c room
  are_enough any room = true
  are_enough (either a b) room = are_enough a room && are_enough b room
  are_enough (optional s) room = are_enough s room
  are_enough (defaulted s d) room = are_enough s room && are_enough s levels_max
  are_enough nothing room = true

  pub are_content_enough : Content → ℕ → Bool
  are_content_enough (leaf l) room = true
  are_content_enough (nested b) zero = false
  are_content_enough (nested b) (suc room) = are_body_enough b room

  pub are_body_enough : Body → ℕ → Bool
  are_body_enough done room = true
  are_body_enough (field s b) room = are_enough s room && are_body_enough b room
  are_body_enough (only s) room = are_enough s room
  are_body_enough (many s) room = are_enough s room
  are_body_enough (exactly n s) room = are_enough s room
  are_body_enough (few n s) room = are_enough s room
  are_body_enough (in_order how s) room = are_enough s room

-- Each encoding of the shape consists of one header and its content. It is never empty.
abbrev pub is_element : Shape → Bool
is_element (tagged t c) = true
is_element any = true
is_element (either a b) = is_element a && is_element b
is_element (optional s) = false
is_element (defaulted s d) = false
is_element nothing = false

-- No encoding of the shape begins with one of these tags.
abbrev pub none_of : Shape → (Tag → Bool) → Bool
none_of (tagged t c) f = not (f t)
none_of any f = false
none_of (either a b) f = none_of a f && none_of b f
none_of (optional s) f = none_of s f
none_of (defaulted s d) f = none_of s f
none_of nothing f = true

-- The tags with which the encoding of a body may begin.
abbrev pub body_begins : Body → Tag → Bool
body_begins done t = false
body_begins (field s b) t = begins s t || (not (is_element s) && body_begins b t)
body_begins (only s) t = begins s t
body_begins (many s) t = begins s t
body_begins (exactly n s) t = begins s t
body_begins (few n s) t = begins s t
body_begins (in_order how s) t = begins s t

-- There are no further fields.
abbrev pub is_end : Body → Bool
is_end done = true
is_end _ = false

-- A field that can be encoded as no bytes has no first tag in common with the fields after it.
abbrev pub is_clear : Shape → Body → Bool
is_clear s b = is_element s || (is_end b || none_of s (body_begins b))

-- The first tags decide which value is next: alternatives have no first tag in common, and a field
-- that can be encoded as no bytes has none in common with the fields after it. Alternatives,
-- optional values, values with a default, and the values of lists and explicit tags are elements
-- (`is_element`), and a default has at most `length_max` bytes. For such shapes, two valid values
-- with the same encoding are equal (`OneEncoding.one_encoding`).
abbrev mutual
  pub is_apart : Shape → Bool
  is_apart (tagged t c) = is_content_apart c
  is_apart any = true
  is_apart (either a b) = (is_element a && is_element b)
      && (none_of a (begins b) && (is_apart a && is_apart b))
  is_apart (optional s) = is_element s && is_apart s
  is_apart (defaulted s d) = (is_element s && is_apart s)
      && (are_octets d && nat_lt (length d) (suc length_max))
  is_apart nothing = true

  pub is_content_apart : Content → Bool
  is_content_apart (leaf l) = true
  is_content_apart (nested b) = is_body_apart b

  pub is_body_apart : Body → Bool
  is_body_apart done = true
  is_body_apart (field s b) = is_clear s b && (is_apart s && is_body_apart b)
  is_body_apart (only s) = is_element s && is_apart s
  is_body_apart (many s) = is_element s && is_apart s
  is_body_apart (exactly n s) = is_element s && is_apart s
  is_body_apart (few n s) = is_element s && is_apart s
  is_body_apart (in_order how s) = is_element s && is_apart s
