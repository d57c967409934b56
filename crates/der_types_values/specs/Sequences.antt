-- The abstract value of a `SequenceRef`: the bytes of its content.
use Rattle.std.specs.Prelude.{ℕ, List}
use Rattle.der_types_values.specs.declared.sequence_ref.SequenceRef.{SequenceRef}

abbrev pub fields_lent : SequenceRef → List ℕ
fields_lent s = s.bytes.now
