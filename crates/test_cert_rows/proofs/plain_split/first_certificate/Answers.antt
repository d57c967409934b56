-- Goals of `plain_split::first_certificate`: a prefix that encodes a certificate is the first one,
-- and if none does, the bytes don't begin with one.
use Rattle.std.proofs.Common.{ℕ, ◌≤◌, length, arith, below_more}
use Rattle.std.proofs.lemmas.Bool.{both_ways}
use Rattle.cert_desk_checking.specs.CertCertificates.Views.{certificate_plain}
use Rattle.test_cert_rows.proofs.SplitFronts.{front_of, no_front}
use Rattle.test_cert_rows.proofs.plain_split.first_certificate.Goals as goal
use Rattle.test_cert_rows.proofs.plain_split.first_certificate.Goals.{then-most-limit, else-most-limit}
use Rattle.const_oid.specs.Bound.{Bound}

pub returns-in-Ok : goal.returns-in-Ok
returns-in-Ok c =
    let most : (c.if-most-limit.most ≤ c.args.limit) × (c.if-most-limit.most ≤ length c.args.octets.now) =
    elim c.if-most-limit.branch [ then-most-limit w ↦ (omega arith, omega arith) | else-most-limit w ↦ (omega arith, omega arith) ] in
    let below : c.loop-len.len ≤ c.if-most-limit.most = omega arith in
    front_of Bound c.args.limit c.args.octets.now (certificate_plain c.in-Ok.certificate) c.loop-len.len (omega arith) (omega arith) c.in-Ok.ensures.spelled

pub loop-len-preserved : goal.loop-len-preserved
loop-len-preserved c = below_more _ _ c.loop-len.invariant (c.in-Err.ensures.refused (λ memory. both_ways _ c.if-is_out_of_memory.false (c.is_out_of_memory.ensures.1 memory)))

pub returns : goal.returns
returns c =
    no_front Bound c.args.limit c.args.octets.now (λ (k : ℕ) small there.
    let below : k ≤ c.if-most-limit.most = elim c.if-most-limit.branch [ then-most-limit w ↦ omega arith | else-most-limit w ↦ omega arith ] in
    c.loop-len.invariant k (omega arith))
