-- Goals of `Lines::entry` that the checker doesn't prove by itself.
use Rattle.std.proofs.Common.{◌++◌, codes, string_bytes, ap, sym, ◌∙◌}
use Rattle.x509_cert_lists.specs.CertParts.Views.{time_date}
use Rattle.x509_cert_lists.specs.CertParts.Texts.{serial_text}
use Rattle.x509_cert_lists.specs.Types.DateTexts.{date_text}
use Rattle.x509_cert_lists.proofs.CertParts.Texts.{time_text_is}
use Rattle.cert_desk_listing.specs.Listing.{labelled}
use Rattle.cert_desk_listing.proofs.Texts.{entry_text}
use Rattle.cert_desk_listing.proofs.lines.Lines.entry.Goals as goal

pub returns : goal.returns
returns g c =
    let number = serial_text c.args.entry.now.serial_number in
    let date = c.args.entry.now.revocation_date in
    c.in_ok-writeln.ensures.bytes
    ∙ ap (λ t. string_bytes c.args.self.now.text ++ (codes "revoked " ++ t)) (entry_text number (date_text (time_date date)))
    ∙ ap (λ t. string_bytes c.args.self.now.text ++ labelled (codes "revoked") (number ++ codes " " ++ t)) (sym (time_text_is date))
