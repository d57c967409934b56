-- The loop invariants of `bmp_string::octets_of`.
use Rattle.std.proofs.Common.{◌≡◌, true}
use Rattle.std.specs.List.{list_all}
use Rattle.der_core.specs.BmpStrings.{is_unit, bmp_octets}
use Rattle.der_types_text.proofs.bmp_string.octets_of.Given as goal

abbrev pub invariant-loop-character : goal.invariant-loop-character
invariant-loop-character l = (l.octets.items ≡ bmp_octets l.yielded) × (list_all is_unit l.yielded ≡ true)
