-- The loop invariants of `sequence_of::SequenceOfDecodeFields::decode_fields`.
use Rattle.std.proofs.Common.{◌≡◌, ◌-◌, length}
use Rattle.der_core.specs.ErrorTypes.ErrorKind.TheVariants as kinds
use Rattle.der_core.specs.Grammar.{read_many}
use Rattle.der_core.specs.Reading.{read_at}
use Rattle.der_core.proofs.Lists.{Reached}
use Rattle.der_types_sets.proofs.sequence_of.SequenceOfDecodeFields.decode_fields.Given as goal

abbrev pub invariant-loop : goal.invariant-loop
invariant-loop g l =
    let old = g.R.Reader.state l.fn.reader in
    let now = g.R.Reader.state l.reader in
    let each = read_at old g.T.Shaped.shape in
    record {
      count : length l.members.items ≡ l.counter;
      reached : Reached g.T.Shaped.shape g.T.Shaped.plain old now l.members.items (read_many kinds.Overlength each (g.row.N - l.counter) now.rest) (read_many kinds.Overlength each g.row.N old.rest);
    }
