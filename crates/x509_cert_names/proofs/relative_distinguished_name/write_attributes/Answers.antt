-- Goals of `relative_distinguished_name::write_attributes` that the checker doesn't prove by itself.
use Rattle.std.proofs.Common.{sym, ap, refl, rules}
use Rattle.std.proofs.Output.{has_written_append, has_written_of_eq}
use Rattle.x509_cert_names.specs.NameTexts.{relative_printed}
use Rattle.x509_cert_names.proofs.Printed.{nothing_printed}
use Rattle.x509_cert_names.proofs.relative_distinguished_name.write_attributes.Goals as goal

pub returns : goal.returns
returns g c = λ plain ok.
    let first = c.in_ok-fmt.ensures.writes plain refl in
    let later = c.write_later.ensures first.plain ok in
    has_written_of_eq _ _ _ _ _ (sym (ap relative_printed c.in-Some.ensures.cases.0)) (has_written_append _ _ _ _ _ _ first later)

pub returns-in_default : goal.returns-in_default
returns-in_default g c = λ plain ok.
    has_written_of_eq _ _ _ _ _ (nothing_printed c.args.attributes.now c.in_default.ensures.cases) (search rules)
