-- Certificate chains: concatenated encodings of certificates.
use Rattle.std.specs.Prelude.{ℕ, List, length, take}
use Rattle.x509_cert_certificates.specs.Certificates.{PlainCertificate, raw_certificate}
use Rattle.cert_desk_bundle.specs.Series.{MayStand, Series, encodings}

-- A certificate that may be in a chain: it has an encoding, and that is within the size limit.
abbrev pub Stands : ℕ → ℕ → PlainCertificate → Type 0
Stands bound limit = MayStand (raw_certificate bound) limit

-- The concatenated encodings of the certificates.
abbrev pub joined : ℕ → List PlainCertificate → List ℕ
joined bound cs = encodings (raw_certificate bound) cs

-- The offset of the certificate at an index.
abbrev pub offset_at : ℕ → List PlainCertificate → ℕ → ℕ
offset_at bound cs place = length (joined bound (take place cs))

-- The input is the chain of these certificates.
abbrev pub Chain : ℕ → ℕ → List PlainCertificate → List ℕ → Type 0
Chain bound limit cs stream = Series (raw_certificate bound) limit cs stream
