-- Goals of `rdn_sequence::write_names` that the checker doesn't prove by itself.
use Rattle.std.proofs.Common.{refl, rules}
use Rattle.std.proofs.Output.{has_written_append, has_written_of_eq}
use Rattle.x509_cert_names.proofs.Printed.{no_names_printed, names_printed}
use Rattle.x509_cert_names.proofs.rdn_sequence.write_names.Goals as goal

pub returns : goal.returns
returns g c = λ plain ok.
    let first = c.in_ok-fmt.ensures.writes plain refl in
    let later = c.write_before.ensures first.plain ok in
    has_written_of_eq _ _ _ _ _ (names_printed c.args.names.now c.in-Some.before.now c.in-Some.last.now c.in-Some.ensures.cases.0) (has_written_append _ _ _ _ _ _ first later)

pub returns-in_default : goal.returns-in_default
returns-in_default g c = λ plain ok.
    has_written_of_eq _ _ _ _ _ (no_names_printed c.args.names.now c.in_default.ensures.cases) (search rules)
