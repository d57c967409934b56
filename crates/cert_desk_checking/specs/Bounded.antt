-- Chains under different bounds of arcs. Certificates and bytes don't depend on the bound, so the
-- same chain can be validated under any.
use Rattle.std.specs.Prelude.{◌≡◌, ℕ, List, [], false, Contains}
use Rattle.x509_cert_anchors.specs.Der.Bounds.{identifiers_of, HoldsLarge}
use Rattle.x509_cert_anchors.specs.Der.Shapes.{sequence_of}
use Rattle.x509_cert_anchors.specs.CertCertificates.Certificates.{PlainCertificate, extensions_of}
use Rattle.x509_cert_anchors.specs.CertCertificates.Certificates.{raw_certificate}
use Rattle.x509_cert_anchors.specs.CertParts.Grammar.{PlainExtension, object_identifier}
use Rattle.x509_cert_anchors.specs.CertGeneralNames.GeneralNames.{general_names}
use Rattle.cert_desk_rules.specs.Judging.{Terms}
use Rattle.cert_desk_rules.specs.Weighing.{Meaning, uses, other_names, constraints, purposes}
use Rattle.cert_desk_rules.specs.Weighing.{malformed, unweighed, is_malformed, weigh}

-- Terms with another bound of arcs, which are otherwise the same.
abbrev pub bounded : Terms → ℕ → Terms
bounded t wide = record t { bound = wide }

-- The OIDs in a certificate (RFC 5280 4.1).
abbrev pub identifiers_in : PlainCertificate → List (List ℕ)
identifiers_in c = identifiers_of (raw_certificate 0) c

-- One of the certificates contains an OID with an arc that isn't below a bound.
abbrev pub OneHoldsLarge : ℕ → List PlainCertificate → Type 0
OneHoldsLarge bound cs = (c : PlainCertificate) × Contains cs c
    × HoldsLarge bound (identifiers_in c)

-- The OIDs in the content of an extension (RFC 5280 4.2.1.6, 4.2.1.12).
abbrev pub identifiers_said : Meaning → List (List ℕ)
identifiers_said (uses set) = []
identifiers_said (other_names names) = identifiers_of (general_names 0) names
identifiers_said (constraints ca path_length) = []
identifiers_said (purposes listed) = identifiers_of (sequence_of (object_identifier 0)) listed
identifiers_said malformed = []
identifiers_said unweighed = []

-- The content of a checked extension is malformed under one bound and can be decoded under another.
-- It then contains an arc that isn't below the first bound (RFC 5280 4.2).
pub record BecomesReadable (small large : ℕ) (e : PlainExtension) : Type 0 where
  pub unread : weigh small e ≡ malformed
  pub readable : is_malformed (weigh large e) ≡ false
  pub holds : HoldsLarge small (identifiers_said (weigh large e))

-- This is true of one extension of one of the certificates.
abbrev pub OneBecomesReadable : ℕ → ℕ → List PlainCertificate → Type 0
OneBecomesReadable small large cs =
    (c : PlainCertificate) × (e : PlainExtension) × Contains cs c × Contains (extensions_of c) e
    × BecomesReadable small large e
