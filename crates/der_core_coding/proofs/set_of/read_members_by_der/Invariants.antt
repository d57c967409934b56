-- The loop invariants of `set_of::read_members_by_der`.
use Rattle.der_core_coding.specs.Steps.{step_of}
use Rattle.der_core_values.specs.CoreOctets.Fronts.{octets_at}
use Rattle.der_core_values.proofs.Lists.{InTurn}
use Rattle.der_core_coding.proofs.set_of.read_members_by_der.Given as goal

abbrev pub invariant-loop : goal.invariant-loop
invariant-loop g l = InTurn (step_of l.fn.equal) g.T.Shaped.shape g.T.Shaped.plain (g.R.Reader.state l.fn.reader) (octets_at l.last) (g.R.Reader.state l.reader) l.values.items l.counter
