-- Goals of `in_range::text_in_range` that the checker doesn't prove by itself.
use Rattle.std.proofs.Common.{subst}
use Rattle.der_core_octets.specs.CoreHead.Texts.{IsUtf8Text}
use Rattle.der_core_octets.proofs.CoreHead.TextLaws.{is_text}
use Rattle.der_core_values.proofs.in_range.text_in_range.Goals as goal

pub returns : goal.returns
returns c = subst IsUtf8Text c.as_bytes.ensures.value (record { utf8 = is_text c.as_bytes.result.now c.as_bytes.ensures.utf8; octets = c.octets_in_range.ensures })
