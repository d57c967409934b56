-- Goals of `listing::of_certificate` that the checker doesn't prove by itself.
use Rattle.std.proofs.Common.{[], ap, sym, ◌∙◌, append-nil, string_bytes}
use Rattle.x509_cert_certificates.specs.Certificates.{tbs_issuer, tbs_subject, tbs_validity}
use Rattle.x509_cert_lists.specs.CertNames.Views.{name_plain}
use Rattle.x509_cert_lists.specs.CertParts.Views.{extensions_plain, time_value}
use Rattle.x509_cert_certificates.specs.Views.{certificate_plain}
use Rattle.cert_desk_listing.specs.Parts.{members_in_field}
use Rattle.cert_desk_listing.proofs.Gathered.{certificate_gathered}
use Rattle.cert_desk_listing.proofs.listing.of_certificate.Goals as goal

pub returns : goal.returns
returns g c =
    let signed = c.tbs_certificate-signed.ensures in
    let validity = c.validity-validity.ensures ∙ ap tbs_validity signed in
    certificate_gathered (certificate_plain c.args.certificate.now)
    c.serial_number.result.now (name_plain c.issuer.result.now) (time_value c.validity-validity.result.now.not_before) (time_value c.validity-validity.result.now.not_after)
    (name_plain c.subject.result.now) (extensions_plain c.as_slice.result.now)
    (c.serial_number.ensures ∙ ap (λ t. t.1.0) signed)
    (c.issuer.ensures ∙ ap tbs_issuer signed)
    (ap (λ v. v.0) validity)
    (ap (λ v. v.1.0) validity)
    (c.subject.ensures ∙ ap tbs_subject signed)
    (ap extensions_plain c.as_slice.ensures.value ∙ ap members_in_field (c.in-Some.ensures ∙ ap (λ t. t.1.1.1.1.1.1.1.1.1.0) signed))
    (string_bytes c.in_ok-lines.lines.text) (string_bytes c.serial.new.self.text) (string_bytes c.name.new.self.text) (string_bytes c.date.new.self.text)
    (string_bytes c.date-2.new.self.text) (string_bytes c.name-2.new.self.text) (string_bytes c.extensions-2.new.self.text)
    c.in_ok-lines.ensures c.in_ok-serial.ensures c.in_ok-name.ensures c.in_ok-date.ensures c.in_ok-date-2.ensures c.in_ok-name-2.ensures c.in_ok-extensions.ensures

pub returns-in_default : goal.returns-in_default
returns-in_default g c =
    let signed = c.tbs_certificate-signed.ensures in
    let validity = c.validity-validity.ensures ∙ ap tbs_validity signed in
    certificate_gathered (certificate_plain c.args.certificate.now)
    c.serial_number.result.now (name_plain c.issuer.result.now) (time_value c.validity-validity.result.now.not_before) (time_value c.validity-validity.result.now.not_after)
    (name_plain c.subject.result.now) []
    (c.serial_number.ensures ∙ ap (λ t. t.1.0) signed)
    (c.issuer.ensures ∙ ap tbs_issuer signed)
    (ap (λ v. v.0) validity)
    (ap (λ v. v.1.0) validity)
    (c.subject.ensures ∙ ap tbs_subject signed)
    (ap members_in_field (c.in_default.ensures ∙ ap (λ t. t.1.1.1.1.1.1.1.1.1.0) signed))
    (string_bytes c.in_ok-lines.lines.text) (string_bytes c.serial.new.self.text) (string_bytes c.name.new.self.text) (string_bytes c.date.new.self.text)
    (string_bytes c.date-2.new.self.text) (string_bytes c.name-2.new.self.text) (string_bytes c.name-2.new.self.text)
    c.in_ok-lines.ensures c.in_ok-serial.ensures c.in_ok-name.ensures c.in_ok-date.ensures c.in_ok-date-2.ensures c.in_ok-name-2.ensures (sym (append-nil (string_bytes c.name-2.new.self.text)))
