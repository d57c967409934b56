-- Goals of `answers::find_answer`: the answer at the index is about the certificate, or isn't.
use Rattle.std.proofs.Common.{Some, sym, ap, ◌∙◌, arith}
use Rattle.der_core.specs.Oid.Bound.{Bound}
use Rattle.x509_cert_reading.specs.CertificateViews.{certificate_plain}
use Rattle.x509_cert_reading.specs.Parts.Views.{key_plain}
use Rattle.pki_status.specs.CertIds.{is_about}
use Rattle.pki_status.proofs.FindSteps.{found_here, found_later, found_none}
use Rattle.pki_status.proofs.answers.find_answer.Goals as goal

pub returns-then-is_about-clause-answer : goal.returns-then-is_about-clause-answer
returns-then-is_about-clause-answer c =
    let p = is_about Bound (certificate_plain c.args.certificate.now) (key_plain c.args.issuer_key.now) in
    let passes = ap p (sym c.answer-item.is) ∙ sym c.in_ok-is_about.ensures.identified ∙ c.if-is_about.true in
    ap Some c.answer-item.is ∙ sym (found_here p c.args.answers.now c.loop-answer.answer-index _ c.loop-answer-test.true passes) ∙ c.loop-answer.invariant

pub loop-answer-preserved : goal.loop-answer-preserved
loop-answer-preserved c =
    let p = is_about Bound (certificate_plain c.args.certificate.now) (key_plain c.args.issuer_key.now) in
    let fails = ap p (sym c.answer-item.is) ∙ sym c.in_ok-is_about.ensures.identified ∙ c.if-is_about.false in
    found_later p c.args.answers.now c.loop-answer.answer-index _ c.loop-answer-test.true fails ∙ c.loop-answer.invariant

pub returns-clause-answer : goal.returns-clause-answer
returns-clause-answer c =
    let p = is_about Bound (certificate_plain c.args.certificate.now) (key_plain c.args.issuer_key.now) in
    sym (found_none p c.args.answers.now c.loop-answer.answer-index (omega arith)) ∙ c.loop-answer.invariant
