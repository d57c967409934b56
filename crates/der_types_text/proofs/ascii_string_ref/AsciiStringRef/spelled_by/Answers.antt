-- Goals of `ascii_string_ref::AsciiStringRef::spelled_by` that the checker doesn't prove by itself.
use Rattle.der_core.specs.Texts.{is_within}
use Rattle.der_types_text.proofs.BmpTexts.{ascii_is_utf8}
use Rattle.der_types_text.proofs.ascii_string_ref.AsciiStringRef.spelled_by.Goals as goal

pub from_utf8_unchecked-text-requires : goal.from_utf8_unchecked-text-requires
from_utf8_unchecked-text-requires g c =
    ascii_is_utf8 (is_within g.T.AsciiType.repertoire) c.args.octets.now g.met.T.AsciiType.is_ascii cc
