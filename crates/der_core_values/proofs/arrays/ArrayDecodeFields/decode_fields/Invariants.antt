-- The loop invariants of `arrays::ArrayDecodeFields::decode_fields`.
use Rattle.std.specs.Prelude.{◌≡◌, ◌-◌, vec_len}
use Rattle.der_core_octets.specs.CoreHead.Grammar.{read_exactly}
use Rattle.der_core_octets.specs.CoreHead.Reading.{read_at}
use Rattle.der_core_values.proofs.Lists.{Reached}
use Rattle.der_core_values.proofs.arrays.ArrayDecodeFields.decode_fields.Given as goal

abbrev pub invariant-loop : goal.invariant-loop
invariant-loop g l =
    let old = g.R.Reader.state l.fn.reader in
    let now = g.R.Reader.state l.reader in
    let each = read_at old g.T.Shaped.shape in
    record {
      count : vec_len l.values ≡ l.counter;
      reached : Reached g.T.Shaped.shape g.T.Shaped.plain old now l.values.items (read_exactly each (g.row.N - l.counter) now.rest) (read_exactly each g.row.N old.rest);
    }
