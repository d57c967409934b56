-- Goals of `certificates::wd_parts` that the checker doesn't prove by itself.
use Rattle.cert_desk_answers.proofs.DeskRules.Returning.{found, lacking}
use Rattle.cert_desk_c.specs.Values.{IsNoCertificate}
use Rattle.cert_tool_describe.specs.Files.{IsCertificate}
use Rattle.std.proofs.Common.{inl}
use Rattle.cert_tool_describe.specs.CertCertificates.Views.{certificate_plain}
use Rattle.cert_desk_c.proofs.certificates.wd_parts.Goals as goal

pub returns-in-Err-clause-statuses : goal.returns-in-Err-clause-statuses
returns-in-Err-clause-statuses c =
    let octets = c.args.octets.now in
    lacking (IsCertificate octets) (IsNoCertificate octets) c.in-Err.status c.code.result c.code.ensures (λ it none. none it.0 it.1) c.in-Err.ensures.refused

pub returns-clause-statuses : goal.returns-clause-statuses
returns-clause-statuses c =
    let octets = c.args.octets.now in
    let it = certificate_plain c.in-Ok.certificate in
    inl (found (IsCertificate octets) (IsNoCertificate octets) c.code-2.result c.code-2.ensures (it, c.in-Ok.ensures.spelled) (λ none. none it c.in-Ok.ensures.spelled))

pub returns-clause-done : goal.returns-clause-done
returns-clause-done c = λ done. (
  certificate_plain c.in-Ok.certificate,
  c.in-Ok.ensures.spelled,
  c.parts_in.ensures.parts (certificate_plain c.in-Ok.certificate) c.in-Ok.ensures.spelled,
)
