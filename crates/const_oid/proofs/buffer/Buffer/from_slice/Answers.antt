-- Goals of `buffer::Buffer::from_slice` that the checker doesn't prove by itself.
use Rattle.const_oid.proofs.BufferLaws.{zeros_after_copy, length_after_copy}
use Rattle.const_oid.proofs.buffer.Buffer.from_slice.Goals as goal

pub invariant_of-result : goal.invariant_of-result
invariant_of-result g c = rw c.copy_from_slice.ensures.after (c.requires, length_after_copy g.row.SIZE _ c.requires, zeros_after_copy g.row.SIZE _ c.requires)
