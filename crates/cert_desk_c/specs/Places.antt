-- The positions of the parts of a certificate in its bytes.
use Rattle.std.specs.Prelude.{◌≡◌, ℕ, List, ◌++◌, length, Bool, Option, Some, None, ⊤}
use Rattle.cert_tool_describe.specs.Oid.Bound.{Bound}
use Rattle.cert_tool_describe.specs.Der.TagTypes.Tag.{Tag}
use Rattle.cert_tool_describe.specs.Der.Integers.{integer_octets}
use Rattle.cert_tool_describe.specs.Der.Shapes.{Content, Body, BodyValue, ContentValue, tagged}
use Rattle.cert_tool_describe.specs.Der.Shapes.{field}
use Rattle.cert_tool_describe.specs.Der.Shapes.{octets_of, contents, body_octets, IsValid, IsBody}
use Rattle.cert_tool_describe.specs.CertNames.Names.{name}
use Rattle.cert_tool_describe.specs.CertParts.Grammar.{PlainExtension, algorithm_identifier}
use Rattle.cert_tool_describe.specs.CertParts.Grammar.{extension_octets}
use Rattle.cert_tool_describe.specs.CertParts.Grammar.{is_critical, public_key_info, serial_number}
use Rattle.cert_tool_describe.specs.CertCertificates.Certificates.{PlainCertificate, Tbs}
use Rattle.cert_tool_describe.specs.CertCertificates.Certificates.{from_validity, issuer}
use Rattle.cert_tool_describe.specs.CertCertificates.Certificates.{optional_fields, public_key}
use Rattle.cert_tool_describe.specs.CertCertificates.Certificates.{subject, tbs}
use Rattle.cert_tool_describe.specs.CertCertificates.Certificates.{raw_tbs_certificate}
use Rattle.cert_tool_describe.specs.CertCertificates.Certificates.{raw_tbs_fields}
use Rattle.cert_tool_describe.specs.CertCertificates.Certificates.{tbs_serial}
use Rattle.cert_desk_c.specs.declared.places.WdSpan.{WdSpan}
use Rattle.cert_desk_c.specs.declared.places.WdSpans.{WdSpans}

-- These bytes are at this position.
abbrev pub StandsAt : List ℕ → WdSpan → List ℕ → Type 0
StandsAt octets span these = (before : List ℕ) × (behind : List ℕ)
    × (octets ≡ before ++ (these ++ behind))
    × (span.start ≡ length before) × (span.size ≡ length these)

-- The parts of a certificate are at these positions: the TBSCertificate, the content bytes of the
-- serial number (X.690 8.3), the names, and the SubjectPublicKeyInfo (RFC 5280 4.1.2.7).
pub record ArePlaced (octets : List ℕ) (c : PlainCertificate) (spans : WdSpans) : Type 0 where
  pub signed_part : StandsAt octets spans.signed_part
      (octets_of (raw_tbs_certificate Bound) (tbs c))
  pub serial_number : StandsAt octets spans.serial_number (integer_octets (tbs_serial (tbs c)))
  pub issuer : StandsAt octets spans.issuer (octets_of (name Bound) (issuer c))
  pub subject : StandsAt octets spans.subject (octets_of (name Bound) (subject c))
  pub public_key : StandsAt octets spans.public_key
      (octets_of (public_key_info Bound) (public_key c))

-- The bytes end with these.
abbrev pub IsRest : List ℕ → List ℕ → Type 0
IsRest octets rest = (before : List ℕ) × (octets ≡ before ++ rest)

-- The bytes after the header with which the bytes begin.
abbrev pub Enters : List ℕ → List ℕ → Type 0
Enters octets rest = IsRest octets rest
    × ((t : Tag) (k : Content) (v : ContentValue k) (w : List ℕ) → IsValid (tagged t k) v
    → octets ≡ octets_of (tagged t k) v ++ w → rest ≡ contents k v ++ w)

-- The bytes after the value with which the bytes begin, which is the first field of a body.
abbrev pub Passes : List ℕ → List ℕ → Type 0
Passes octets rest = IsRest octets rest
    × ((t : Tag) (k : Content) (b : Body) (v : BodyValue (field (tagged t k) b)) (w : List ℕ)
    → IsBody (field (tagged t k) b) v → octets ≡ body_octets (field (tagged t k) b) v ++ w
    → rest ≡ body_octets b v.1 ++ w)

-- The fields of a TBSCertificate from the serial number on (RFC 5280 4.1.2.2).
abbrev pub numbered_fields : Body
numbered_fields = field (serial_number None) (field (algorithm_identifier Bound)
    (field (name Bound) (from_validity Bound)))

-- The bytes after the version with which the fields of a TBSCertificate begin (RFC 5280 4.1.2.1).
abbrev pub PassesVersion : List ℕ → List ℕ → Type 0
PassesVersion octets rest = IsRest octets rest
    × ((t : Tbs) (w : List ℕ) → IsBody (raw_tbs_fields Bound) t
    → octets ≡ body_octets (raw_tbs_fields Bound) t ++ w
    → rest ≡ body_octets numbered_fields t.1 ++ w)

-- The fields of a TBSCertificate after the public key (RFC 5280 4.1.2.8, 4.1.2.9).
abbrev pub behind_key : Tbs → BodyValue (optional_fields 0)
behind_key t = t.1.1.1.1.1.1.1

-- The bytes after the public key.
abbrev pub IsBehindKey : List ℕ → PlainCertificate → List ℕ → Type 0
IsBehindKey octets c rest = IsRest octets rest
    × ((w : List ℕ) × (rest ≡ body_octets (optional_fields Bound) (behind_key (tbs c)) ++ w))

-- The position of the content of an extension, if there is one, and whether it is critical.
abbrev pub IsFound : List ℕ → Option PlainExtension → Option (WdSpan × Bool) → Type 0
IsFound octets None None = ⊤
IsFound octets (Some e) (Some found) =
    StandsAt octets found.0 (extension_octets e) × (found.1 ≡ is_critical e)
IsFound octets None (Some found) = ⊥
IsFound octets (Some e) None = ⊥
