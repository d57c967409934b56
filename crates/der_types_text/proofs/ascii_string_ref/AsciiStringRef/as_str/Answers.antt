-- Goals of `ascii_string_ref::AsciiStringRef::as_str` that the checker doesn't prove by itself.
use Rattle.der_core.specs.Texts.{is_within}
use Rattle.der_types_text.proofs.BmpTexts.{ascii_octets}
use Rattle.der_types_text.proofs.ascii_string_ref.AsciiStringRef.as_str.Goals as goal

pub returns-clause-valid : goal.returns-clause-valid
returns-clause-valid g c =
    let within = c.args.self.now.within in
    record { within = within; octets = ascii_octets (is_within g.T.AsciiType.repertoire) c.args.self.now.text.now g.met.T.AsciiType.is_ascii within }
