-- The string form of names (RFC 4514 2, 3). Parsing depends on a bound on the arcs of OIDs.
use Rattle.std.specs.Prelude.{◌≡◌, ◌≢◌, ℕ, List, [], ◌∷◌, ◌++◌, reverse, Some, None, false}
use Rattle.std.specs.Prelude.{Result, Ok, Err, IsPermutation}
use Rattle.std.specs.List.{IsDistinct, flat_map}
use Rattle.der_core.specs.ErrorTypes.ErrorKind.{ErrorKind}
use Rattle.der_core.specs.ErrorTypes.ErrorKind.TheVariants as kinds
use Rattle.der_core.specs.Shapes.{Shape, Value, octets_of}
use Rattle.der_core.specs.Writing.{write}
use Rattle.der_core.specs.Placed.{AllValid}
use Rattle.der_types.specs.Sets.{Ascends}
use Rattle.x509_cert_name_texts.specs.Keys.{key_arcs}
use Rattle.x509_cert_name_texts.specs.Pieces.{ReadsPieces, key_and_value}
use Rattle.x509_cert_names.specs.Names.{type_and_value}
use Rattle.x509_cert_names.specs.Pairs.{pair_plain, same_pair}
use Rattle.x509_cert_names.specs.ValueTexts.{ReadsValue, attribute_printed}
use Rattle.x509_cert_names.specs.declared.attribute_type_and_value.AttributeTypeAndValue.{AttributeTypeAndValue}

-- Parsing an attribute (RFC 4514 3, `attributeTypeAndValue`): a key, the first =, and a value.
pub data ReadsAttribute (bound : ℕ) (text : List ℕ) : Result AttributeTypeAndValue ErrorKind
    → Type 0 where
  member : (key rest : List ℕ) (a : AttributeTypeAndValue) → key_and_value text ≡ Some (key, rest)
      → key_arcs bound key ≡ Ok a.oid → ReadsValue a.oid rest (Ok a.value)
      → ReadsAttribute bound text (Ok a)
  no_equals : key_and_value text ≡ None → ReadsAttribute bound text (Err kinds.Failed)
  no_key : (key rest : List ℕ) (e : ErrorKind) → key_and_value text ≡ Some (key, rest)
      → key_arcs bound key ≡ Err e → ReadsAttribute bound text (Err e)
  no_value : (key rest arcs : List ℕ) (e : ErrorKind) → key_and_value text ≡ Some (key, rest)
      → key_arcs bound key ≡ Ok arcs → ReadsValue arcs rest (Err e)
      → ReadsAttribute bound text (Err e)

-- Parsing an RDN (RFC 4514 3, `relativeDistinguishedName`): attributes between +. They are sorted
-- by encoding; each must have an encoding, and no two may be equal. If both conditions fail, either
-- error may be returned.
pub data ReadsRelative (bound : ℕ) (text : List ℕ) : Result (List AttributeTypeAndValue) ErrorKind
    → Type 0 where
  set : (members attributes : List AttributeTypeAndValue)
      → ReadsPieces 43 (ReadsAttribute bound) text (Ok members)
      → IsPermutation members attributes → Ascends (type_and_value bound) pair_plain attributes
      → IsDistinct same_pair attributes → AllValid (type_and_value bound) pair_plain attributes
      → ReadsRelative bound text (Ok attributes)
  refused : (e : ErrorKind) → ReadsPieces 43 (ReadsAttribute bound) text (Err e)
      → ReadsRelative bound text (Err e)
  twice : (members : List AttributeTypeAndValue)
      → ReadsPieces 43 (ReadsAttribute bound) text (Ok members) → (IsDistinct same_pair members → ⊥)
      → ReadsRelative bound text (Err kinds.SetDuplicate)
  too_long : (members : List AttributeTypeAndValue)
      → ReadsPieces 43 (ReadsAttribute bound) text (Ok members)
      → (AllValid (type_and_value bound) pair_plain members → ⊥)
      → ReadsRelative bound text (Err kinds.Overflow)

-- Parsing a name (RFC 4514 3, `distinguishedName`): RDNs between commas, the last one first. The
-- empty text is the empty name.
pub data ReadsName (bound : ℕ) (text : List ℕ) : Result (List (List AttributeTypeAndValue))
    ErrorKind → Type 0 where
  empty : text ≡ [] → ReadsName bound text (Ok [])
  pieces : (relative_names : List (List AttributeTypeAndValue)) → text ≢ []
      → ReadsPieces 44 (ReadsRelative bound) text (Ok relative_names)
      → ReadsName bound text (Ok (reverse relative_names))
  refused : (e : ErrorKind) → text ≢ [] → ReadsPieces 44 (ReadsRelative bound) text (Err e)
      → ReadsName bound text (Err e)

-- A separator and the printed value after it.
abbrev pub printed_behind : {A : Type 0} → ℕ → (A → List ℕ) → A → List ℕ
printed_behind separator print a = separator ∷ print a

-- Printed values with a separator between them.
abbrev pub joined_by : {A : Type 0} → ℕ → (A → List ℕ) → List A → List ℕ
joined_by separator print [] = []
joined_by separator print (a ∷ rest) = print a ++ flat_map (printed_behind separator print) rest

-- A printed RDN (RFC 4514 2.2): its attributes with + between them.
abbrev pub relative_printed : List AttributeTypeAndValue → List ℕ
relative_printed r = joined_by 43 attribute_printed r

-- A printed name (RFC 4514 2.1): its RDNs with commas between them, the last one first.
abbrev pub name_printed : List (List AttributeTypeAndValue) → List ℕ
name_printed n = joined_by 44 relative_printed (reverse n)

-- Parsing a text and encoding the value: the bytes of the encoding, the error of the parser, or the
-- error of the encoder.
pub data ReadsEncoding {A : Type 0} (s : Shape) (plain : A → Value s) (Reads : Result A ErrorKind
    → Type 0) : Result (List ℕ) ErrorKind → Type 0 where
  written : (a : A) → Reads (Ok a) → ReadsEncoding s plain Reads (Ok (octets_of s (plain a)))
  refused : (e : ErrorKind) → Reads (Err e) → ReadsEncoding s plain Reads (Err e)
  unwritten : (a : A) (e : ErrorKind) → Reads (Ok a)
      → write s (plain a) (record { written = []; room = None; failed = false }) ≡ Err e
      → ReadsEncoding s plain Reads (Err e)
