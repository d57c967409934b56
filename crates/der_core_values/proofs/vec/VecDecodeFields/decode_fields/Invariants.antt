-- The loop invariants of `vec::VecDecodeFields::decode_fields`.
use Rattle.std.proofs.Common.{◌-◌, length}
use Rattle.der_core_octets.specs.CoreHead.declared.error.ErrorKind.TheVariants as kinds
use Rattle.der_core_octets.specs.CoreHead.Grammar.{read_many}
use Rattle.der_core_octets.specs.CoreHead.Reading.{read_at}
use Rattle.der_core_values.proofs.Lists.{Reached}
use Rattle.der_core_values.proofs.vec.VecDecodeFields.decode_fields.Given as goal

abbrev pub invariant-loop : goal.invariant-loop
invariant-loop g l =
    let old = g.R.Reader.state l.fn.reader in
    let now = g.R.Reader.state l.reader in
    let each = read_at old g.T.Shaped.shape in
    Reached g.T.Shaped.shape g.T.Shaped.plain old now l.values.items (read_many kinds.TrailingData each (length old.rest - l.counter) now.rest) (read_many kinds.TrailingData each (length old.rest) old.rest)
