-- Goals of `files::begin` that the checker doesn't prove by itself.
use Rattle.std.proofs.lemmas.Bool.{ne_eqb}
use Rattle.std.proofs.lemmas.Result.{err_from_is_err_and}
use Rattle.cert_tool_pem.proofs.AfterFirstByte.{unread_behind, whole_behind}
use Rattle.cert_tool_pem.proofs.files.begin.Goals as goal

pub returns-in_err-text-clause-unread : goal.returns-in_err-text-clause-unread
returns-in_err-text-clause-unread g c =
    let p = err_from_is_err_and c.from_residual.result c.from_residual.ensures.1 in
    let read = rw c.in-Ok-Some.field-0-is at c.in-Ok-Some.ensures.first in
    rw (p.1, p.2) (unread_behind g.I.Input.takes g.I.Input.is_ended g.I.Input.failures g.met.I.Input.takes_in_turn c.args.input.now c.first_of.new.input c.read_text.new.input c.in-Ok-Some.first read.0 read.1 c.in_err-text.field-0.0 c.in_err-text.ensures.unread)

pub returns-then-first-ne-SEQUENCE-clause-begun : goal.returns-then-first-ne-SEQUENCE-clause-begun
returns-then-first-ne-SEQUENCE-clause-begun g c =
    let read = rw c.in-Ok-Some.field-0-is at c.in-Ok-Some.ensures.first in
    let text = c.in_ok-text.ensures.whole in
    rw text.1 (whole_behind g.I.Input.takes g.I.Input.is_ended g.I.Input.failures g.met.I.Input.takes_in_turn c.args.input.now c.first_of.new.input c.read_text.new.input c.in-Ok-Some.first read.0 read.1 text.0 text.2, ne_eqb c.in-Ok-Some.first 48 c.if-first-ne-SEQUENCE.true)
