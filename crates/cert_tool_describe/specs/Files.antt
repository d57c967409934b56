-- The files that the program decodes, with the profile `Raw`.
use Rattle.std.specs.Prelude.{ℕ, List, None}
use Rattle.x509_cert_lists.specs.Oid.Bound.{Bound}
use Rattle.x509_cert_lists.specs.Der.Shapes.{BodyValue, Spells}
use Rattle.x509_cert_certificates.specs.Certificates.{PlainCertificate, raw_certificate}
use Rattle.x509_cert_lists.specs.ListGrammar.{PlainList, cert_req, cert_req_fields, certificate_list}

-- The bytes are the encoding of a certificate (RFC 5280 4.1).
abbrev pub IsCertificate : List ℕ → Type 0
IsCertificate octets = (c : PlainCertificate) × Spells (raw_certificate Bound) c octets

-- The bytes are the encoding of a CRL (RFC 5280 5.1).
abbrev pub IsList : List ℕ → Type 0
IsList octets = (l : PlainList) × Spells (certificate_list Bound None) l octets

-- The bytes are the encoding of a CSR (RFC 2986 4.2).
abbrev pub IsRequest : List ℕ → Type 0
IsRequest octets = (r : BodyValue (cert_req_fields 0)) × Spells (cert_req Bound) r octets
