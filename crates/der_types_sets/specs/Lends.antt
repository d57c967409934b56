-- The final value of a list of which a `&mut` reference to the members was returned.
use Rattle.std.specs.Prelude.{List, length}
use Rattle.std.specs.List.{refill}
use Rattle.std.specs.Borrow.{Lends, Fml, RattleType, MutBor, Array}
use Rattle.der_types_sets.specs.contracts.sequence_of.SequenceOf.{the_row}

-- When the reference `r` ends, the members are the final value of `r`.
abbrev pub lends_members : (T N : RattleType) → MutBor (List T.Denot) → MutBor (List T.Denot) → Fml
lends_members T N v r = Lends (the_row T N) (Array T 0) v r (refill (length v.now) v.now)
