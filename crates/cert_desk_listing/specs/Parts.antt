-- The parts of certificates, CRLs and CSRs that are listed.
use Rattle.std.specs.Prelude.{ℕ, ℤ, List, [], Option, Some, None}
use Rattle.x509_cert_lists.specs.Der.Shapes.{Shape, Value, BodyValue, AnyValue, sequence}
use Rattle.x509_cert_certificates.specs.Certificates.{PlainCertificate, tbs, tbs_extensions}
use Rattle.x509_cert_certificates.specs.Certificates.{tbs_validity}
use Rattle.x509_cert_lists.specs.ListGrammar.{revoked_cert_fields, certificate_list_fields}
use Rattle.x509_cert_lists.specs.ListGrammar.{cert_req_fields}
use Rattle.x509_cert_lists.specs.CertNames.Names.{PlainName, PlainAttribute}
use Rattle.x509_cert_lists.specs.CertParts.Grammar.{PlainExtension, time}

-- The elements of an optional field, or none if it is absent.
abbrev pub members_in_field : {A : Type 0} → Option (List A) → List A
members_in_field None = []
members_in_field (Some xs) = xs

-- A date with its form, UTCTime or GeneralizedTime.
abbrev pub PlainTime : Type 0
PlainTime = Value time

-- The fields of a certificate (RFC 5280 4.1.2).
abbrev pub serial : PlainCertificate → ℤ
serial c = (tbs c).1.0

abbrev pub not_before : PlainCertificate → PlainTime
not_before c = (tbs_validity (tbs c)).0

abbrev pub not_after : PlainCertificate → PlainTime
not_after c = (tbs_validity (tbs c)).1.0

abbrev pub extensions_of : PlainCertificate → List PlainExtension
extensions_of c = members_in_field (tbs_extensions (tbs c))

-- The fields of a CRL (RFC 5280 5.1), decoded with the profile `Raw`.
abbrev pub raw_certificate_list : ℕ → Shape
raw_certificate_list bound = sequence (certificate_list_fields bound None)

abbrev pub PlainList : Type 0
PlainList = BodyValue (certificate_list_fields 0 None)

abbrev pub PlainRevoked : Type 0
PlainRevoked = BodyValue (revoked_cert_fields 0 None)

abbrev pub list_issuer : PlainList → PlainName
list_issuer l = l.0.1.1.0

abbrev pub this_update : PlainList → PlainTime
this_update l = l.0.1.1.1.0

abbrev pub next_update : PlainList → Option PlainTime
next_update l = l.0.1.1.1.1.0

abbrev pub revoked : PlainList → List PlainRevoked
revoked l = members_in_field l.0.1.1.1.1.1.0

abbrev pub list_extensions : PlainList → List PlainExtension
list_extensions l = members_in_field l.0.1.1.1.1.1.1.0

abbrev pub revoked_serial : PlainRevoked → ℤ
revoked_serial r = r.0

abbrev pub revoked_date : PlainRevoked → PlainTime
revoked_date r = r.1.0

-- The fields of a CSR (RFC 2986 4).
abbrev pub PlainRequest : Type 0
PlainRequest = BodyValue (cert_req_fields 0)

abbrev pub request_subject : PlainRequest → PlainName
request_subject r = r.0.1.0

abbrev pub request_attributes : PlainRequest → List PlainAttribute
request_attributes r = r.0.1.1.1.0

abbrev pub attribute_arcs : PlainAttribute → List ℕ
attribute_arcs a = a.0

abbrev pub attribute_values : PlainAttribute → List AnyValue
attribute_values a = a.1.0
