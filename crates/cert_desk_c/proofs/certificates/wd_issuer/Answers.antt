-- Goals of `certificates::wd_issuer` that the checker doesn't prove by itself.
use Rattle.std.proofs.Common.{inl, refl, sym, ap, ◌∙◌}
use Rattle.cert_tool_describe.specs.Oid.Bound.{Bound}
use Rattle.cert_tool_describe.specs.CertCertificates.Certificates.{PlainCertificate, Tbs, raw_certificate, issuer, tbs_issuer}
use Rattle.cert_tool_describe.specs.CertCertificates.Views.{certificate_plain}
use Rattle.cert_tool_describe.specs.CertNames.PlainTexts.{name_text}
use Rattle.cert_desk_c.proofs.Told.{printed, unprinted}
use Rattle.cert_desk_c.proofs.certificates.wd_issuer.Goals as goal

pub returns-in-Err-clause-statuses : goal.returns-in-Err-clause-statuses
returns-in-Err-clause-statuses c =
    unprinted (raw_certificate Bound) refl refl (λ (x : PlainCertificate). name_text (issuer x)) c.args.octets.now c.args.out.now c.in-Err.status c.code.result c.code.ensures c.in-Err.ensures.refused

pub returns-clause-statuses : goal.returns-clause-statuses
returns-clause-statuses c =
    inl (printed (raw_certificate Bound) refl refl (λ (x : PlainCertificate). name_text (issuer x)) c.args.octets.now c.args.out.now (certificate_plain c.in-Ok.certificate) c.as_bytes.result.now c.give.result c.in-Ok.ensures.spelled
    (c.as_bytes.ensures.value ∙ c.in-Ok-text_of.ensures ∙ ap name_text (c.issuer.ensures ∙ ap (λ (t : Tbs). tbs_issuer t) c.tbs_certificate.ensures)) c.give.ensures.status c.give.ensures.fits c.give.ensures.no_room)
