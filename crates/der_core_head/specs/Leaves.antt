-- Leaves, which are the types whose content isn't a sequence of values: their abstract values,
-- their contents, and the decoders of these contents.
use Rattle.std.specs.Prelude.{◌≡◌, ℕ, ℤ, ◌≤◌, List, [], ◌∷◌, length, Bool, true, false, Result, Ok}
use Rattle.std.specs.Prelude.{Err, ◌==◌, if◌then◌else◌, ⊤}
use Rattle.const_oid.specs.IdentifierOctets.{identifier_octets, IsIdentifier, read_identifier}
use Rattle.const_oid.specs.declared.error.Error.{Error as OidError}
use Rattle.der_core_head.specs.declared.error.ErrorKind.{ErrorKind}
use Rattle.der_core_head.specs.declared.error.ErrorKind.TheVariants as kinds
use Rattle.der_core_head.specs.declared.tag.Tag.{Tag}
use Rattle.der_core_head.specs.Octets.{IsOctets}
use Rattle.der_core_head.specs.Integers.{Numbers, IsNumber, integer_octets, integer_read}
use Rattle.der_core_head.specs.BitStrings.{Bits, IsBits, bit_contents, bits_read}
use Rattle.der_core_head.specs.Texts.{Repertoire, IsText, text_read, IsUtf8Text, utf8_read}
use Rattle.der_core_head.specs.BmpStrings.{IsBmp, bmp_octets, bmp_read}
use Rattle.der_core_head.specs.NamedBits.{IsNamed, named_octets, named_read}
use Rattle.der_core_head.specs.Dates.{Civil, is_civil, IsUtc, utc_octets, generalized_octets}
use Rattle.der_core_head.specs.Dates.{utc_read, generalized_read}

-- The types whose content isn't a sequence of values, with their clauses.
pub data Leaf : Type 0 where
  boolean : Leaf  -- X.690 8.2, 11.1
  null : Leaf  -- X.690 8.8
  integer : Numbers → Leaf  -- X.690 8.3; ENUMERATED: 8.4
  bits : Leaf  -- X.690 8.6, 11.2
  octets : Leaf  -- X.690 8.7
  identifier : ℕ → ℕ → Leaf  -- X.690 8.19, with the bound of arcs and the greatest length
  utc_time : Leaf  -- X.690 11.8
  generalized_time : Leaf  -- X.690 11.7
  text : Repertoire → Leaf  -- X.690 8.23, with the characters of a repertoire
  utf8 : Leaf  -- X.690 8.23.10
  bmp : Leaf  -- X.690 8.23.8
  named : ℕ → Leaf  -- X.690 11.2.2, with this many names

-- The abstract values of each leaf.
abbrev pub LeafValue : Leaf → Type 0
LeafValue boolean = Bool
LeafValue null = Unit {0}
LeafValue (integer r) = ℤ
LeafValue bits = Bits
LeafValue octets = List ℕ
LeafValue (identifier bound capacity) = List ℕ
LeafValue utc_time = Civil
LeafValue generalized_time = Civil
LeafValue (text r) = List ℕ
LeafValue utf8 = List ℕ
LeafValue bmp = List ℕ
LeafValue (named n) = ℕ

-- The content of a BOOLEAN: 0 for false, and 255 for true (X.690 11.1).
abbrev pub bool_octets : Bool → List ℕ
bool_octets false = 0 ∷ []
bool_octets true = 255 ∷ []

-- The content of a value.
abbrev pub leaf_contents : (l : Leaf) → LeafValue l → List ℕ
leaf_contents boolean v = bool_octets v
leaf_contents null v = []
leaf_contents (integer r) v = integer_octets v
leaf_contents bits v = bit_contents v
leaf_contents octets v = v
leaf_contents (identifier bound capacity) v = identifier_octets v
leaf_contents utc_time v = utc_octets v
leaf_contents generalized_time v = generalized_octets v
leaf_contents (text r) v = v
leaf_contents utf8 v = v
leaf_contents bmp v = bmp_octets v
leaf_contents (named n) v = named_octets v

-- The values that have an encoding.
abbrev pub IsLeafValue : (l : Leaf) → LeafValue l → Type 0
IsLeafValue boolean v = ⊤
IsLeafValue null v = ⊤
IsLeafValue (integer r) v = IsNumber r v
IsLeafValue bits v = IsBits v
IsLeafValue octets v = IsOctets v
IsLeafValue (identifier bound capacity) v = IsIdentifier bound v
    × (length (identifier_octets v) ≤ capacity)
IsLeafValue utc_time v = IsUtc v
IsLeafValue generalized_time v = is_civil v ≡ true
IsLeafValue (text r) v = IsText r v
IsLeafValue utf8 v = IsUtf8Text v
IsLeafValue bmp v = IsBmp v
IsLeafValue (named n) v = IsNamed n v

-- Decodes the content of a BOOLEAN (X.690 11.1).
abbrev pub bool_read : Tag → List ℕ → Result Bool ErrorKind
bool_read t (b ∷ []) = if b == 0 then Ok false else if b == 255 then Ok true
    else Err (kinds.Noncanonical t)
bool_read t w = Err (kinds.Noncanonical t)

-- Decodes the content of NULL, which is empty (X.690 8.8).
abbrev pub null_read : Tag → List ℕ → Result (Unit {0}) ErrorKind
null_read t [] = Ok tt
null_read t (b ∷ w) = Err (kinds.Noncanonical t)

-- Each error of an object identifier becomes `OidMalformed`.
abbrev pub or_malformed : {A : Type 0} → Result A OidError → Result A ErrorKind
or_malformed (Ok x) = Ok x
or_malformed (Err e) = Err kinds.OidMalformed

-- Decodes a content. The tag is only used in errors.
abbrev pub leaf_read : (l : Leaf) → Tag → List ℕ → Result (LeafValue l) ErrorKind
leaf_read boolean t w = bool_read t w
leaf_read null t w = null_read t w
leaf_read (integer r) t w = integer_read r t w
leaf_read bits t w = bits_read t w
leaf_read octets t w = Ok w
leaf_read (identifier bound capacity) t w = or_malformed (read_identifier bound capacity w)
leaf_read utc_time t w = utc_read t w
leaf_read generalized_time t w = generalized_read t w
leaf_read (text r) t w = text_read r t w
leaf_read utf8 t w = utf8_read w
leaf_read bmp t w = bmp_read t w
leaf_read (named n) t w = named_read n t w
