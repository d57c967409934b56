-- Goals of `paths::issuer_among`: the certificate at the index has the issuer as its subject, or
-- hasn't.
use Rattle.std.proofs.Common.{sym, ap, ◌∙◌, arith}
use Rattle.std.proofs.lemmas.Iterator.Adapters.{position_from-zero}
use Rattle.cert_desk_checking.specs.Oid.Bound.{Bound}
use Rattle.cert_desk_checking.specs.CertCertificates.Certificates.{tbs_subject}
use Rattle.cert_desk_checking.specs.CertCertificates.Views.{certificate_plain}
use Rattle.cert_desk_checking.proofs.AnchorSteps.{same_name_is}
use Rattle.cert_desk_checking.proofs.PlaceLaws.{entry_at}
use Rattle.pki_signers.specs.Paths.{is_issuer}
use Rattle.pki_signers.proofs.PathSteps.{found_here, found_later, found_none}
use Rattle.pki_signers.proofs.paths.issuer_among.Goals as goal

pub loop-place-init : goal.loop-place-init
loop-place-init c = sym (position_from-zero (is_issuer Bound (certificate_plain c.args.certificate.now)) c.args.certificates.now.certificates)

pub returns-then-is_issued_by-clause-issuer : goal.returns-then-is_issued_by-clause-issuer
returns-then-is_issued_by-clause-issuer c =
    let other = entry_at _ _ _ _ _ c.get.ensures.entry c.unwrap-other.ensures in
    let passes = same_name_is Bound _ _ _ _ _ c.is_issued_by.ensures (c.subject.ensures ∙ ap tbs_subject c.tbs_certificate.ensures) c.if-is_issued_by.true in
    sym (found_here (is_issuer Bound (certificate_plain c.args.certificate.now)) c.args.certificates.now.certificates c.loop-place.place _ other.certificate passes) ∙ c.loop-place.invariant

pub loop-place-preserved : goal.loop-place-preserved
loop-place-preserved c =
    let other = entry_at _ _ _ _ _ c.get.ensures.entry c.unwrap-other.ensures in
    let fails = same_name_is Bound _ _ _ _ _ c.is_issued_by.ensures (c.subject.ensures ∙ ap tbs_subject c.tbs_certificate.ensures) c.if-is_issued_by.false in
    found_later (is_issuer Bound (certificate_plain c.args.certificate.now)) c.args.certificates.now.certificates c.loop-place.place _ other.certificate fails ∙ c.loop-place.invariant

pub returns-clause-issuer : goal.returns-clause-issuer
returns-clause-issuer c =
    sym (found_none (is_issuer Bound (certificate_plain c.args.certificate.now)) c.args.certificates.now.certificates c.loop-place.place (omega arith)) ∙ c.loop-place.invariant
