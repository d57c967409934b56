-- The order of encodings, which is that of lists of bytes (X.690 11.6).
use Rattle.std.specs.Prelude.{◌≡◌, ℕ, List, [], ◌++◌, Bool, true, Option, Some, None, Result, Err}
use Rattle.std.specs.Prelude.{◌⊎◌}
use Rattle.std.specs.Ordering.{nat_cmp}
use Rattle.std.specs.declared.cmp.Ordering.{Ordering}
use Rattle.std.specs.declared.cmp.Ordering.TheVariants.{Less}
use Rattle.std.specs.Cmp.Lexicographic.{slice_cmp}
use Rattle.der_core_coding.specs.CoreHead.declared.error.Error.{Error}
use Rattle.der_core_coding.specs.CoreHead.declared.error.ErrorKind.{ErrorKind}
use Rattle.der_core_coding.specs.CoreHead.declared.error.ErrorKind.TheVariants as kinds
use Rattle.der_core_coding.specs.CoreHead.declared.tag.Tag.{Tag}
use Rattle.der_core_coding.specs.CoreHead.Tags.{IsTag, tag_octets}
use Rattle.der_core_coding.specs.CoreHead.Shapes.{Shape, Content, Body, Value, ContentValue}
use Rattle.der_core_coding.specs.CoreHead.Shapes.{BodyValue}
use Rattle.der_core_coding.specs.CoreHead.Shapes.{octets_of, contents, body_octets}

-- The first bytes that differ decide. If one list is a prefix of the other, it is the lesser one.
abbrev pub octets_cmp : List ℕ → List ℕ → Ordering
octets_cmp a b = slice_cmp nat_cmp a b

-- The order of the encodings of two values.
abbrev pub encodings_cmp : (s : Shape) → Value s → Value s → Ordering
encodings_cmp s v w = octets_cmp (octets_of s v) (octets_of s w)

-- The order of two contents as lists of bytes, whatever their lengths are.
abbrev pub contents_cmp : (c : Content) → ContentValue c → ContentValue c → Ordering
contents_cmp c v w = octets_cmp (contents c v) (contents c w)

-- The order of two rows of fields as lists of bytes.
abbrev pub bodies_cmp : (b : Body) → BodyValue b → BodyValue b → Ordering
bodies_cmp b v w = octets_cmp (body_octets b v) (body_octets b w)

-- The error is `Overflow`, and one of the two lengths exceeds `length_max`.
pub record Overflows (e : Error) (m n : Result ℕ ErrorKind) : Type 0 where
  pub kind : e.kind ≡ kinds.Overflow
  pub length : (m ≡ Err kinds.Overflow) ⊎ (n ≡ Err kinds.Overflow)

-- The bytes begin with the tag, which is one of these, or there are no bytes and no tag.
abbrev pub StartsWith : (Tag → Bool) → Option Tag → List ℕ → Type 0
StartsWith first None b = b ≡ []
StartsWith first (Some t) b = (w : List ℕ) × (b ≡ tag_octets t ++ w) × IsTag t × (first t ≡ true)

-- The order of bytes that begin with the first tag, or are empty, and of bytes that begin with the
-- second tag, if the tags differ.
abbrev pub next_cmp : Option Tag → Tag → Ordering
next_cmp None t = Less
next_cmp (Some u) t = octets_cmp (tag_octets u) (tag_octets t)
