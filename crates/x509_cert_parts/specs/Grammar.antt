-- The grammar of the parts of certificates (RFC 5280 4.1, 4.1.1.2, 4.1.2). Shapes with an OID
-- depend on a bound on its arcs. The shape of a serial number depends on the greatest number of
-- content bytes that its profile accepts, if it limits them.
use Rattle.std.specs.Prelude.{ℕ, List, [], ◌∷◌, Bool, false, Option, None}
use Rattle.std.specs.Option.{option_map_or}
use Rattle.std.proofs.Common.{inl, inr}
use Rattle.der_core.specs.Oid.Bound.{max_size}
use Rattle.der_core.specs.TagTypes.Tag.TheVariants as tags
use Rattle.der_core.specs.BitStrings.{Bits}
use Rattle.der_core.specs.Dates.{Civil}
use Rattle.der_core.specs.Integers.{Numbers, every, within, among, unsigned}
use Rattle.der_core.specs.Leaves.{boolean, integer, bits, octets, identifier, utc_time}
use Rattle.der_core.specs.Leaves.{generalized_time, Leaf}
use Rattle.der_core.specs.Shapes.{Shape, Body, Value, BodyValue, AnyValue, tagged, any, leaf}
use Rattle.der_core.specs.Shapes.{either, optional, defaulted, field, done, sequence}
use Rattle.der_core.specs.Shapes.{sequence_of, explicit}
use Rattle.der_core.specs.Tags.{context}

-- OBJECT IDENTIFIER, whose content has at most 39 bytes here.
abbrev pub object_identifier : ℕ → Shape
object_identifier bound = tagged tags.ObjectIdentifier (leaf (identifier bound max_size))

-- BIT STRING and OCTET STRING.
abbrev pub bit_string : Shape
bit_string = tagged tags.BitString (leaf bits)

abbrev pub octet_string : Shape
octet_string = tagged tags.OctetString (leaf octets)

-- AlgorithmIdentifier ::= SEQUENCE { algorithm OBJECT IDENTIFIER, parameters ANY OPTIONAL }
-- (4.1.1.2).
abbrev pub algorithm_fields : ℕ → Body
algorithm_fields bound = field (object_identifier bound) (field (optional any) done)

abbrev pub algorithm_identifier : ℕ → Shape
algorithm_identifier bound = sequence (algorithm_fields bound)

-- SubjectPublicKeyInfo ::= SEQUENCE { algorithm AlgorithmIdentifier, subjectPublicKey BIT STRING }
-- (4.1.2.7).
abbrev pub public_key_fields : ℕ → Body
public_key_fields bound = field (algorithm_identifier bound) (field bit_string done)

abbrev pub public_key_info : ℕ → Shape
public_key_info bound = sequence (public_key_fields bound)

-- Version ::= INTEGER { v1(0), v2(1), v3(2) } (4.1.2.1).
abbrev pub version : Shape
version = tagged tags.Integer (leaf (integer (among (0 ∷ 1 ∷ 2 ∷ []))))

-- [0] EXPLICIT Version DEFAULT v1. The encoding of the default is rejected (X.690 11.5).
abbrev pub version_field : Shape
version_field = defaulted (explicit 0 version) (160 ∷ 3 ∷ 2 ∷ 1 ∷ 0 ∷ [])

-- The numbers with at most this many content bytes, or all numbers.
abbrev pub numbers_within : Option ℕ → Numbers
numbers_within limit = option_map_or within limit every

-- CertificateSerialNumber ::= INTEGER (4.1.2.2).
abbrev pub serial_number : Option ℕ → Shape
serial_number limit = tagged tags.Integer (leaf (integer (numbers_within limit)))

-- Time ::= CHOICE { utcTime UTCTime, generalTime GeneralizedTime } (4.1.2.5).
abbrev pub time : Shape
time =
    either (tagged tags.UtcTime (leaf utc_time))
    (tagged tags.GeneralizedTime (leaf generalized_time))

-- Validity ::= SEQUENCE { notBefore Time, notAfter Time } (4.1.2.5).
abbrev pub validity_fields : Body
validity_fields = field time (field time done)

abbrev pub validity : Shape
validity = sequence validity_fields

-- BOOLEAN DEFAULT FALSE.
abbrev pub false_by_default : Shape
false_by_default = defaulted (tagged tags.Boolean (leaf boolean)) (1 ∷ 1 ∷ 0 ∷ [])

-- Extension ::= SEQUENCE { extnID OBJECT IDENTIFIER, critical BOOLEAN DEFAULT FALSE, extnValue
-- OCTET STRING } (4.1, 4.2).
abbrev pub extension_fields : ℕ → Body
extension_fields bound =
    field (object_identifier bound) (field false_by_default (field octet_string done))

abbrev pub extension : ℕ → Shape
extension bound = sequence (extension_fields bound)

-- Extensions ::= SEQUENCE OF Extension. An empty sequence is accepted, too.
abbrev pub extensions : ℕ → Shape
extensions bound = sequence_of (extension bound)

-- The abstract values of these shapes, and their parts by name. Neither the bound nor the profile
-- changes their types.
abbrev pub Algorithm : Type 0
Algorithm = Value (algorithm_identifier 0)

-- The arcs of the algorithm's OID.
abbrev pub algorithm_arcs : Algorithm → List ℕ
algorithm_arcs a = a.0

abbrev pub algorithm_parameters : Algorithm → Option AnyValue
algorithm_parameters a = a.1.0

-- The algorithm with these arcs and no parameters.
abbrev pub plain_algorithm : List ℕ → Algorithm
plain_algorithm arcs = (arcs, (None, tt))

abbrev pub PublicKey : Type 0
PublicKey = Value (public_key_info 0)

abbrev pub key_algorithm : PublicKey → Algorithm
key_algorithm k = k.0

abbrev pub key_bits : PublicKey → Bits
key_bits k = k.1.0

-- A date and which of the two encodings it has.
abbrev pub PlainTime : Type 0
PlainTime = Value time

abbrev pub civil_of : PlainTime → Civil
civil_of (inl c) = c
civil_of (inr c) = c

abbrev pub PlainValidity : Type 0
PlainValidity = BodyValue validity_fields

abbrev pub not_before : PlainValidity → PlainTime
not_before v = v.0

abbrev pub not_after : PlainValidity → PlainTime
not_after v = v.1.0

abbrev pub PlainExtension : Type 0
PlainExtension = Value (extension 0)

-- The arcs of the extension's OID.
abbrev pub extension_arcs : PlainExtension → List ℕ
extension_arcs e = e.0

abbrev pub is_critical : PlainExtension → Bool
is_critical e = e.1.0

abbrev pub extension_octets : PlainExtension → List ℕ
extension_octets e = e.1.1.0

-- Implicit tags on a primitive type, and on a SEQUENCE or SET (X.690 8.14.3).
abbrev pub implicit_leaf : ℕ → Leaf → Shape
implicit_leaf n l = tagged (context false n) (leaf l)

-- INTEGER (0..2^width - 1).
abbrev pub whole_number : ℕ → Leaf
whole_number width = integer (unsigned width)

abbrev pub number_of : ℕ → Shape
number_of width = tagged tags.Integer (leaf (whole_number width))
