-- The string form of attribute values (RFC 4514 2.4, 3) and of attributes (2.3).
use Rattle.std.specs.Prelude.{◌≡◌, ◌≢◌, ℕ, ◌||◌, nat_lt, List, ◌∷◌, ◌++◌, length, Option, Some}
use Rattle.std.specs.Prelude.{None, Result, Ok, Err, if◌then◌else◌, chars}
use Rattle.std.specs.Result.{result_ok}
use Rattle.der_core.specs.Oid.Comparing.{owned_eq}
use Rattle.der_core.specs.Oid.DottedText.{dotted}
use Rattle.der_core.specs.Limits.{length_max}
use Rattle.der_core.specs.ErrorTypes.ErrorKind.{ErrorKind}
use Rattle.der_core.specs.ErrorTypes.ErrorKind.TheVariants as kinds
use Rattle.der_core.specs.TagTypes.Tag.{Tag}
use Rattle.der_core.specs.TagTypes.Tag.TheVariants as tags
use Rattle.der_core.specs.Heads.{Head, head_at, tlv}
use Rattle.der_core.specs.Leaves.{text, utf8}
use Rattle.der_core.specs.Octets.{◌>>=◌}
use Rattle.der_core.specs.Shapes.{AnyValue}
use Rattle.der_core.specs.Texts.{printable, ascii}
use Rattle.der_types.specs.Contents.{leaf_as}
use Rattle.x509_cert_name_texts.specs.Escapes.{ReadsOctets, hex_octets, escaped, in_hex}
use Rattle.x509_cert_name_texts.specs.Keys.{x520, pilot, email_address, key_of}
use Rattle.x509_cert_names.specs.declared.attribute_type_and_value.AttributeTypeAndValue.{AttributeTypeAndValue}

-- The tag of a value that is given as a text (RFC 5280 appendix A.1): PrintableString for a country
-- or a serial number, IA5String for a domain component or an e-mail address, UTF8String otherwise.
abbrev pub tag_for : List ℕ → Tag
tag_for arcs =
    if owned_eq arcs (x520 6) || owned_eq arcs (x520 5) then tags.PrintableString
    else if owned_eq arcs (pilot 25) || owned_eq arcs email_address then tags.Ia5String
    else tags.Utf8String

-- The value with this header and this content, if the content has the length in the header.
abbrev pub behind_head : Head → List ℕ → Result AnyValue ErrorKind
behind_head h w =
    if nat_lt (length w) h.len then Err kinds.Incomplete
    else if nat_lt h.len (length w) then Err kinds.TrailingData
    else Ok (record { tag = h.tag; contents = w })

-- The value whose encoding these hexadecimal digits represent (RFC 4514 2.4; X.690 8.1).
unfoldable pub encoded_value : List ℕ → Result AnyValue ErrorKind
encoded_value digits = hex_octets digits >>= λ w. if nat_lt length_max (length w)
    then Err kinds.Overflow else (head_at w >>= λ h. behind_head h.0 h.1)

-- The value with this tag and this content, if the content has fewer than 2^32 bytes.
abbrev pub of_content : Tag → List ℕ → Result AnyValue ErrorKind
of_content t w = if nat_lt length_max (length w) then Err kinds.Overflow
    else Ok (record { tag = t; contents = w })

-- Parsing a value that is given as a text: the bytes that it represents are the content of a value
-- with the tag for the type. The content isn't checked against the tag.
abbrev pub ReadsString : List ℕ → List ℕ → Result AnyValue ErrorKind → Type 0
ReadsString arcs w r = (octets : Result (List ℕ) ErrorKind) × ReadsOctets w octets
    × (r ≡ (octets >>= of_content (tag_for arcs)))

-- Parsing a value (RFC 4514 3, `attributeValue`): hexadecimal digits of an encoding after #, or a
-- text.
pub data ReadsValue (arcs text : List ℕ) (r : Result AnyValue ErrorKind) : Type 0 where
  hexstring : (digits : List ℕ) → text ≡ 35 ∷ digits → r ≡ encoded_value digits
      → ReadsValue arcs text r
  string : ((digits : List ℕ) → text ≢ 35 ∷ digits) → ReadsString arcs text r
      → ReadsValue arcs text r

-- The text of a value that decodes as a PrintableString, UTF8String, IA5String or TeletexString.
abbrev pub text_by : Tag → AnyValue → Option (List ℕ)
text_by tags.PrintableString a = result_ok (leaf_as tags.PrintableString (text printable) a)
text_by tags.Utf8String a = result_ok (leaf_as tags.Utf8String utf8 a)
text_by tags.Ia5String a = result_ok (leaf_as tags.Ia5String (text ascii) a)
text_by tags.TeletexString a = result_ok (leaf_as tags.TeletexString (text ascii) a)
text_by _ a = None

-- The text of a value, if it has one.
unfoldable pub text_of : AnyValue → Option (List ℕ)
text_of a = text_by a.tag a

-- The encoding of a value.
unfoldable pub encoding_of : AnyValue → List ℕ
encoding_of a = tlv a.tag a.contents

-- A printed attribute (RFC 4514 2.3, 2.4): its name and its text, or the dotted OID and the
-- encoding in hexadecimal if it lacks either.
abbrev pub printed_by : Option (List ℕ) → Option (List ℕ) → AttributeTypeAndValue → List ℕ
printed_by (Some key) (Some w) a = key ++ (61 ∷ escaped (chars w))
printed_by _ _ a = dotted a.oid ++ (61 ∷ 35 ∷ in_hex (encoding_of a.value))

-- The printed form of an attribute.
unfoldable pub attribute_printed : AttributeTypeAndValue → List ℕ
attribute_printed a = printed_by (key_of a.oid) (text_of a.value) a
