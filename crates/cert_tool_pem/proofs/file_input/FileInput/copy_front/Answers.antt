-- Goals of `file_input::FileInput::copy_front` that the checker doesn't prove by itself.
use Rattle.std.proofs.Common.{arith}
use Rattle.cert_tool_pem.proofs.MemoryRead.{piece}
use Rattle.cert_tool_pem.proofs.file_input.FileInput.copy_front.Goals as goal

pub returns-clause-copied : goal.returns-clause-copied
returns-clause-copied g c =
    piece c.args.self.now.front.items c.deref.result.now c.copy_from_slice.new.self c.args.buffer.now c.args.self.now.taken c.min-count.result c.deref.ensures.value c.copy_from_slice.ensures.after (omega (arith, c.min-count.ensures))
