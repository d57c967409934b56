-- The certificate with which bytes begin.
use Rattle.std.specs.Prelude.{◌≡◌, ℕ, ◌≤◌, ◌<◌, List, ◌++◌, length, take, Option, Some, None}
use Rattle.der_core.specs.Shapes.{Spells}
use Rattle.cert_desk_checking.specs.CertCertificates.Certificates.{PlainCertificate}
use Rattle.cert_desk_checking.specs.CertCertificates.Certificates.{raw_certificate}
use Rattle.cert_desk_checking.specs.CertCertificates.Certificates.{certificate_octets}
use Rattle.cert_desk_checking.specs.DeskBundle.Chains.{Stands}

-- The first n bytes encode the certificate, and n is within the limit.
pub record Front (bound limit : ℕ) (octets : List ℕ) (c : PlainCertificate) (n : ℕ) : Type 0 where
  pub some : 0 < n
  pub within : n ≤ limit
  pub there : n ≤ length octets
  pub spelled : Spells (raw_certificate bound) c (take n octets)

-- The bytes don't begin with a certificate that may be in a chain.
abbrev pub NoFront : ℕ → ℕ → List ℕ → Type 0
NoFront bound limit octets = (c : PlainCertificate) (more : List ℕ) → Stands bound limit c
    → octets ≡ certificate_octets bound c ++ more → ⊥

-- The certificate with which the bytes begin, and its length, or that there is none.
abbrev pub IsFirst : ℕ → ℕ → List ℕ → Option (PlainCertificate × ℕ) → Type 0
IsFirst bound limit octets None = NoFront bound limit octets
IsFirst bound limit octets (Some p) = Front bound limit octets p.0 p.1
