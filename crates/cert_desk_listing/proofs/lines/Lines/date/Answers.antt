-- Goals of `Lines::date` that the checker doesn't prove by itself.
use Rattle.std.proofs.Common.{◌++◌, string_bytes, ap, sym, ◌∙◌}
use Rattle.cert_desk_listing.specs.Listing.{labelled}
use Rattle.x509_cert_lists.proofs.CertParts.Texts.{time_text_is}
use Rattle.cert_desk_listing.proofs.lines.Lines.date.Goals as goal

pub returns : goal.returns
returns c =
    c.in_ok-labelled.ensures
    ∙ ap (λ t. string_bytes c.args.self.now.text ++ labelled c.args.label.now t) (sym (time_text_is c.args.date.now))
