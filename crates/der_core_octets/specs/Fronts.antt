-- Decoding a prefix of at most 2^32 - 1 bytes.
use Rattle.std.specs.Prelude.{List, ℕ, length, Option, Some, None, Result, Err, nat_lt}
use Rattle.std.specs.Prelude.{if◌then◌else◌}
use Rattle.std.specs.Borrow.{Bor}
use Rattle.der_core_head.specs.declared.error.ErrorKind.{ErrorKind}
use Rattle.der_core_head.specs.declared.error.ErrorKind.TheVariants as kinds
use Rattle.der_core_head.specs.Limits.{length_max, levels_max}
use Rattle.der_core_head.specs.Shapes.{Shape, Value}
use Rattle.der_core_head.specs.Grammar.{read}

-- The bytes of a reference, if there is one.
abbrev pub octets_at : Option (Bor (List ℕ)) → Option (List ℕ)
octets_at None = None
octets_at (Some o) = Some o.now

-- Decodes a prefix, of at most 2^32 - 1 bytes in all, and gives the remaining bytes.
abbrev pub read_front : (s : Shape) → List ℕ → Result (Value s × List ℕ) ErrorKind
read_front s w = if nat_lt length_max (length w) then Err kinds.Overflow else read s levels_max w
