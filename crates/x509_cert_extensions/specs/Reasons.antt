-- The reasons for which certificates are revoked (RFC 5280 5.3.1).
use Rattle.std.specs.Prelude.{ℕ, List, [], ◌∷◌}
use Rattle.x509_cert_extensions.specs.declared.crl_reason.CrlReason.{CrlReason}
use Rattle.x509_cert_extensions.specs.declared.crl_reason.CrlReason.TheVariants as reasons

-- CRLReason ::= ENUMERATED { unspecified (0), keyCompromise (1), .. certificateHold (6),
-- removeFromCRL (8), privilegeWithdrawn (9), aACompromise (10) }.
abbrev pub reason_numbers : List ℕ
reason_numbers = 0 ∷ 1 ∷ 2 ∷ 3 ∷ 4 ∷ 5 ∷ 6 ∷ 8 ∷ 9 ∷ 10 ∷ []

-- The number of a reason.
abbrev pub reason_number : CrlReason → ℕ
reason_number reasons.Unspecified = 0
reason_number reasons.KeyCompromise = 1
reason_number reasons.CaCompromise = 2
reason_number reasons.AffiliationChanged = 3
reason_number reasons.Superseded = 4
reason_number reasons.CessationOfOperation = 5
reason_number reasons.CertificateHold = 6
reason_number reasons.RemoveFromCRL = 8
reason_number reasons.PrivilegeWithdrawn = 9
reason_number reasons.AaCompromise = 10
