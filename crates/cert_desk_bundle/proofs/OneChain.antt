-- An input is the chain of at most one list of certificates, and has at most one error.
use Rattle.std.proofs.Common.{◌≡◌, ℕ, List, refl}
use Rattle.x509_cert_certificates.specs.Der.Limits.{levels_max}
use Rattle.x509_cert_certificates.specs.Certificates.{PlainCertificate, raw_certificate}
use Rattle.cert_desk_bundle.specs.declared.fault_kind.FaultKind.{FaultKind}
use Rattle.cert_desk_bundle.specs.Chains.{Chain}
use Rattle.cert_desk_bundle.specs.Faults.{StreamFault}
use Rattle.cert_desk_bundle.specs.Series.{IsUnambiguous}
use Rattle.cert_desk_bundle.proofs.SeriesLaws.{one_series, fault_no_series, one_series_fault}

pub certificates_told : (bound : ℕ) → IsUnambiguous (raw_certificate bound)
certificates_told bound = record { room = levels_max; element = refl; apart = refl; enough = refl }

pub one_chain : (bound limit : ℕ) (cs ds : List PlainCertificate) (stream : List ℕ) → Chain bound limit cs stream → Chain bound limit ds stream → cs ≡ ds
one_chain bound limit cs ds stream p q = one_series (raw_certificate bound) limit (certificates_told bound) cs ds stream p q

pub fault_no_chain : (bound limit : ℕ) (cs ds : List PlainCertificate) (kind : FaultKind) (stream : List ℕ) → StreamFault bound limit stream cs kind → Chain bound limit ds stream → ⊥
fault_no_chain bound limit cs ds kind stream f chain = fault_no_series (raw_certificate bound) limit (certificates_told bound) cs ds kind stream f chain

pub one_fault : (bound limit : ℕ) (cs ds : List PlainCertificate) (kind other : FaultKind) (stream : List ℕ) → StreamFault bound limit stream cs kind → StreamFault bound limit stream ds other → (cs ≡ ds) × (kind ≡ other)
one_fault bound limit cs ds kind other stream f g = one_series_fault (raw_certificate bound) (certificates_told bound) limit cs ds kind other stream f g
