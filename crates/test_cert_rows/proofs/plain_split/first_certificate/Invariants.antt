-- The loop invariant of `plain_split::first_certificate`: no prefix tried so far encodes a
-- certificate.
use Rattle.std.proofs.Common.{ℕ, ◌<◌, take}
use Rattle.const_oid.specs.Bound.{Bound}
use Rattle.der_core.specs.Shapes.{Spells}
use Rattle.cert_desk_checking.specs.CertCertificates.Certificates.{PlainCertificate, raw_certificate}
use Rattle.test_cert_rows.proofs.plain_split.first_certificate.Given as goal

abbrev pub invariant-loop-len : goal.invariant-loop-len
invariant-loop-len l = (k : ℕ) → k < l.len → (c : PlainCertificate) → Spells (raw_certificate Bound) c (take k l.octets) → ⊥
