-- Goals of `attribute_type_and_value::AttributeTypeAndValueDisplay::fmt` that the checker doesn't
-- prove by itself.
use Rattle.std.proofs.Common.{ap, ◌∙◌, option_map}
use Rattle.std.proofs.Output.{has_written_of_eq}
use Rattle.x509_cert_names.proofs.Printed.{text_printed, no_text_printed, no_key_printed}
use Rattle.x509_cert_names.proofs.attribute_type_and_value.AttributeTypeAndValueDisplay.fmt.Goals as goal
use Rattle.x509_cert_names.proofs.attribute_type_and_value.AttributeTypeAndValueDisplay.fmt.Goals.{in_default-via-in-Some+in_default, in_default-via-in_default}

pub returns-in-Some-Some-clause-writes : goal.returns-in-Some-Some-clause-writes
returns-in-Some-Some-clause-writes g c = λ plain ok.
    has_written_of_eq _ _ _ _ _
    (text_printed c.args.self.now c.in-Some-Some.key.now c.in-Some-Some.text.now (c.key_of.ensures ∙ ap (option_map (λ x. x.now)) c.in-Some-Some.is-0) (c.text_of.ensures ∙ ap (option_map (λ x. x.now)) c.in-Some-Some.is-1))
    (c.write_text.ensures plain ok)

pub returns-in_default-clause-writes : goal.returns-in_default-clause-writes
returns-in_default-clause-writes g c = λ plain ok.
    has_written_of_eq _ _ _ _ _
    (elim c.in_default.branch [ in_default-via-in-Some+in_default w ↦ no_text_printed c.args.self.now (c.text_of.ensures ∙ ap (option_map (λ x. x.now)) w.in_default.is-1) | in_default-via-in_default w ↦ no_key_printed c.args.self.now (c.key_of.ensures ∙ ap (option_map (λ x. x.now)) w.in_default.is-0) ])
    (c.write_hex_value.ensures plain ok)
