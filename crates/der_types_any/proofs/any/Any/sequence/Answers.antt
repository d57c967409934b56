-- Goals of `any::Any::sequence` that the checker doesn't prove by itself.
use Rattle.der_types_any.proofs.any.Any.sequence.Goals as goal

pub returns-clause-reads : goal.returns-clause-reads
returns-clause-reads g c = λ b view calls. rw c.to_ref.ensures at (c.in_ok-value.ensures.reads b view calls)
