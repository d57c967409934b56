-- Goals of `anchor::VersionDefaultValue::is_default` that the checker doesn't prove by itself.
use Rattle.std.proofs.Common.{ℕ, List, sym, ap, bytes_eq}
use Rattle.x509_cert_anchors.specs.Anchors.{first_anchor_version_octets}
use Rattle.x509_cert_anchors.proofs.VersionOctets.{one_octets, one_valid}
use Rattle.x509_cert_anchors.proofs.anchor.VersionDefaultValue.is_default.Goals as goal

pub returns-clause-value : goal.returns-clause-value
returns-clause-value c = sym (ap (λ (w : List ℕ). bytes_eq w first_anchor_version_octets) one_octets)

pub returns-clause-valid : goal.returns-clause-valid
returns-clause-valid c = λ _. one_valid
