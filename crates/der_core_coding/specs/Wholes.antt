-- Decoding all bytes under BER.
use Rattle.std.specs.Prelude.{ℕ, List, length, Result, Err, nat_lt, if◌then◌else◌}
use Rattle.der_core_values.specs.CoreHead.Limits.{length_max, levels_max}
use Rattle.der_core_values.specs.CoreHead.declared.error.ErrorKind.{ErrorKind}
use Rattle.der_core_values.specs.CoreHead.declared.error.ErrorKind.TheVariants as kinds
use Rattle.der_core_values.specs.CoreHead.declared.encoding_rules.EncodingRules.TheVariants as encodings
use Rattle.der_core_values.specs.CoreHead.Octets.{◌>>=◌}
use Rattle.der_core_values.specs.CoreHead.Shapes.{Shape, Value}
use Rattle.der_core_values.specs.CoreHead.Grammar.{read_by, whole}

-- Decodes all bytes, of which there are at most 2^32 - 1. Headers are decoded under BER.
unfoldable pub whole_ber_at : (s : Shape) → List ℕ → Result (Value s × List ℕ) ErrorKind
whole_ber_at s w = if nat_lt length_max (length w) then Err kinds.Overflow
    else (read_by encodings.Ber s levels_max w >>= whole)
