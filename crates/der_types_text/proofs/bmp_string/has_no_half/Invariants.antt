-- The loop invariants of `bmp_string::has_no_half`.
use Rattle.std.proofs.Common.{◌≡◌}
use Rattle.std.specs.List.{list_all}
use Rattle.der_core.specs.BmpStrings.{is_unit, units}
use Rattle.der_types_text.proofs.bmp_string.has_no_half.Given as goal

abbrev pub invariant-loop-unit : goal.invariant-loop-unit
invariant-loop-unit l = list_all is_unit l.unit-iterator ≡ list_all is_unit (units l.octets)
