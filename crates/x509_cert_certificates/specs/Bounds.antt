-- Certificates under a bound on the arcs of OIDs.
use Rattle.std.specs.Prelude.{◌≡◌, ℕ, List, Option, None, flat_map, Contains}
use Rattle.std.specs.List.{AllByRecursion}
use Rattle.der_core.specs.Bounds.{identifiers_of, HoldsLarge}
use Rattle.der_core.specs.Shapes.{IsValid, octets_of}
use Rattle.x509_cert_certificates.specs.Certificates.{PlainCertificate, certificate}

-- The OIDs in a certificate, in their order: those of its algorithms, of the attributes of its
-- names and of its extensions.
unfoldable pub certificate_identifiers : PlainCertificate → List (List ℕ)
certificate_identifiers c = identifiers_of (certificate 0 None) c

-- The bytes are the encodings of these certificates, one after another.
pub record SpellsEach (bound : ℕ) (limit : Option ℕ) (cs : List PlainCertificate)
    (w : List ℕ) : Type 0 where
  pub valid : AllByRecursion (λ c. IsValid (certificate bound limit) c) cs
  pub octets : w ≡ flat_map (λ c. octets_of (certificate bound limit) c) cs

-- A certificate in the list has an OID with an arc that isn't below the bound.
abbrev pub OneHoldsLarge : ℕ → List PlainCertificate → Type 0
OneHoldsLarge bound cs = (c : PlainCertificate) × Contains cs c
    × HoldsLarge bound (certificate_identifiers c)
