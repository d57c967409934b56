-- The certificates of a bundle, as it stores them.
use Rattle.std.specs.Prelude.{◌≡◌, ◌≢◌, ℕ, ◌≤◌, List, [], length, map, ◌⊎◌, Some, slice_get}
use Rattle.std.specs.List.{AllByRecursion}
use Rattle.x509_cert_certificates.specs.Der.Shapes.{Spells}
use Rattle.x509_cert_certificates.specs.Certificates.{PlainCertificate, raw_certificate}
use Rattle.x509_cert_certificates.specs.Certificates.{certificate_octets, signed_start}
use Rattle.x509_cert_certificates.specs.Certificates.{signed_length}
use Rattle.x509_cert_certificates.specs.Oid.Bound.{Bound}
use Rattle.x509_cert_certificates.specs.Views.{certificate_plain}
use Rattle.cert_desk_bundle.specs.declared.bundle.Bundle.TheInside.{Inside}
use Rattle.cert_desk_bundle.specs.declared.fault_kind.FaultKind.TheVariants as kinds
use Rattle.cert_desk_bundle.specs.declared.located.Located.{Located}
use Rattle.cert_desk_bundle.specs.declared.standing.Standing.{Standing}
use Rattle.cert_desk_bundle.specs.declared.standing.Standing.TheVariants as standings
use Rattle.cert_desk_bundle.specs.Chains.{Stands, joined, offset_at}
use Rattle.cert_desk_bundle.specs.Headers.{Awaits}
use Rattle.cert_desk_bundle.specs.Streams.{Kept}

-- The value of a stored certificate.
abbrev pub plain_of : Located → PlainCertificate
plain_of l = certificate_plain l.certificate

-- The values of stored certificates.
abbrev pub certificates_of : List Located → List PlainCertificate
certificates_of located = map plain_of located

-- The contents of a bundle, as contracts see it.
abbrev pub kept_of : Inside → Kept
kept_of b =
    record {
      limit = b.limit;
      certificates = certificates_of b.located.items;
      rest = b.rest.octets.items;
      standing = b.standing;
    }

-- The certificate that has these bytes and begins at this offset, with the position of its
-- TBSCertificate.
pub record IsPlacedAt (offset : ℕ) (octets : List ℕ) (l : Located) : Type 0 where
  pub offset_is : l.offset ≡ offset
  pub octets_are : l.octets.items ≡ octets
  pub spelled : Spells (raw_certificate Bound) (plain_of l) octets
  pub header : l.header ≡ signed_start Bound (plain_of l)
  pub signed : l.signed ≡ signed_length Bound (plain_of l)

-- Why there is no such certificate: memory ran out, or no certificate has these bytes.
abbrev pub IsUnread : List ℕ → Standing → Type 0
IsUnread octets standing = (standing ≡ standings.NoMemory)
    ⊎ ((standing ≡ standings.Faulted kinds.Malformed)
    × ((c : PlainCertificate) → Spells (raw_certificate Bound) c octets → ⊥))

-- Each certificate may be in a chain, and begins where the one before it ends.
pub record AreKept (limit end : ℕ) (located : List Located) : Type 0 where
  pub end_is : end ≡ length (joined Bound (certificates_of located))
  pub each : AllByRecursion (Stands Bound limit) (certificates_of located)
  pub places : (place : ℕ) (l : Located) → slice_get located place ≡ Some l
      → IsPlacedAt (offset_at Bound (certificates_of located) place)
      (certificate_octets Bound (plain_of l)) l

-- The bundle's certificates, and the bytes of an incomplete one after them. A bundle that accepts
-- no piece keeps no such bytes.
pub record IsKept (b : Inside) : Type 0 where
  pub room : 6 ≤ b.limit
  pub kept : AreKept b.limit b.end b.located.items
  pub awaits : Awaits b.limit b.end b.rest.octets.items b.rest.wanted
  pub shut : b.standing ≢ standings.Open → b.rest.octets.items ≡ []
