-- The grammar of names and attributes (RFC 5280 4.1.2.4, 4.1.2.6, appendix A.1; RFC 2986 4.1). Each
-- shape depends on a bound on the arcs of OIDs.
use Rattle.std.specs.Prelude.{ℕ, List, flat_map}
use Rattle.der_core.specs.Oid.Bound.{max_size}
use Rattle.der_core.specs.TagTypes.Tag.TheVariants as tags
use Rattle.der_core.specs.Leaves.{identifier, text, utf8, bmp}
use Rattle.der_core.specs.Texts.{printable, ascii}
use Rattle.der_core.specs.Shapes.{Shape, Body, Value, AnyValue, tagged, any, leaf, either}
use Rattle.der_core.specs.Shapes.{field, done, sequence, sequence_of, strict_set_of, octets_of}

-- AttributeType ::= OBJECT IDENTIFIER, whose content has at most 39 bytes here.
abbrev pub attribute_type : ℕ → Shape
attribute_type bound = tagged tags.ObjectIdentifier (leaf (identifier bound max_size))

-- Attribute ::= SEQUENCE { type AttributeType, values SET OF AttributeValue }, where AttributeValue
-- ::= ANY.
abbrev pub attribute_fields : ℕ → Body
attribute_fields bound = field (attribute_type bound) (field (strict_set_of any) done)

abbrev pub attribute : ℕ → Shape
attribute bound = sequence (attribute_fields bound)

-- AttributeTypeAndValue ::= SEQUENCE { type AttributeType, value AttributeValue }.
abbrev pub type_and_value_fields : ℕ → Body
type_and_value_fields bound = field (attribute_type bound) (field any done)

abbrev pub type_and_value : ℕ → Shape
type_and_value bound = sequence (type_and_value_fields bound)

-- RelativeDistinguishedName ::= SET OF AttributeTypeAndValue, all different.
abbrev pub relative_name : ℕ → Shape
relative_name bound = strict_set_of (type_and_value bound)

-- Name ::= CHOICE { rdnSequence SEQUENCE OF RelativeDistinguishedName }.
abbrev pub name : ℕ → Shape
name bound = sequence_of (relative_name bound)

-- DirectoryString ::= CHOICE { printableString, teletexString, utf8String, bmpString }.
abbrev pub directory_string : Shape
directory_string =
    either (tagged tags.PrintableString (leaf (text printable)))
    (either (tagged tags.TeletexString (leaf (text ascii)))
    (either (tagged tags.Utf8String (leaf utf8)) (tagged tags.BmpString (leaf bmp))))

-- The abstract values of these shapes. The bound doesn't change their type, only which of them are
-- valid.
abbrev pub PlainAttribute : Type 0
PlainAttribute = Value (attribute 0)

abbrev pub TypeAndValue : Type 0
TypeAndValue = Value (type_and_value 0)

abbrev pub RelativeName : Type 0
RelativeName = Value (relative_name 0)

abbrev pub PlainName : Type 0
PlainName = Value (name 0)

-- The arcs of an attribute's type, and its value.
abbrev pub type_of : TypeAndValue → List ℕ
type_of a = a.0

abbrev pub value_of : TypeAndValue → AnyValue
value_of a = a.1.0

-- The attributes of a name, RDN by RDN.
abbrev pub all_of : PlainName → List TypeAndValue
all_of n = flat_map (λ r. r) n

-- The encoding of a name.
abbrev pub name_octets : ℕ → PlainName → List ℕ
name_octets bound n = octets_of (name bound) n
