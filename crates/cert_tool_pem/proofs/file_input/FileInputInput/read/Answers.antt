-- Goals of `file_input::FileInputInput::read` that the checker doesn't prove by itself.
use Rattle.std.proofs.Common.{arith}
use Rattle.cert_tool_pem.proofs.MemoryRead.{from_both}
use Rattle.cert_tool_pem.proofs.file_input.FileInputInput.read.Goals as goal

pub returns-in-Ok-clause-taken : goal.returns-in-Ok-clause-taken
returns-in-Ok-clause-taken g c =
    let all = c.copy_front-count.ensures.all (omega (arith, c.if-count-buffer.false, c.copy_front-count.ensures.room)) in
    from_both g.I.Input.takes c.args.self.now.rest c.in-Some.rest c.read.new.self c.args.self.now.front.items c.copy_front-count.new.buffer c.read.new.buffer _ c.args.self.now.taken c.copy_front-count.result c.in-Ok.more
    c.copy_front-count.ensures.copied all c.copy_front-count.ensures.room c.in-Some.is c.in-Ok.ensures.bound c.in-Ok.ensures.taken
