-- Signed values, and the position of the signed part in their encodings (RFC 5280 5.1.1; RFC 2986
-- 4.2).
use Rattle.std.specs.Prelude.{ℕ, List, length, take, drop}
use Rattle.x509_cert_anchors.specs.Oid.Bound.{Bound}
use Rattle.x509_cert_anchors.specs.Der.TagTypes.Tag.TheVariants as tags
use Rattle.x509_cert_anchors.specs.Der.Heads.{head_octets}
use Rattle.x509_cert_anchors.specs.Der.Shapes.{Shape, Body, BodyValue, field, done, sequence}
use Rattle.x509_cert_anchors.specs.Der.Shapes.{octets_of}
use Rattle.x509_cert_anchors.specs.Der.Shapes.{body_octets}
use Rattle.x509_cert_lists.specs.CertParts.Grammar.{algorithm_identifier, bit_string}

-- SIGNED{ToBeSigned} ::= SEQUENCE { toBeSigned ToBeSigned, algorithmIdentifier AlgorithmIdentifier,
-- signature BIT STRING } (RFC 5912 14), for any shape of the signed part.
abbrev pub signed_fields : Shape → Body
signed_fields s = field s (field (algorithm_identifier Bound) (field bit_string done))

-- The encoding of the signed value.
abbrev pub whole_octets : (s : Shape) → BodyValue (signed_fields s) → List ℕ
whole_octets s v = octets_of (sequence (signed_fields s)) v

-- The position of the signed part in the encoding: after the outer header.
unfoldable pub signed_start : (s : Shape) → BodyValue (signed_fields s) → ℕ
signed_start s v = length (head_octets tags.Sequence (length (body_octets (signed_fields s) v)))

-- The length of the signed part in bytes.
unfoldable pub signed_length : (s : Shape) → BodyValue (signed_fields s) → ℕ
signed_length s v = length (octets_of s v.0)

-- The bytes at the position of the signed part.
abbrev pub octets_in_place : (s : Shape) → BodyValue (signed_fields s) → List ℕ
octets_in_place s v = take (signed_length s v) (drop (signed_start s v) (whole_octets s v))
