-- Goals of `object_identifier::ObjectIdentifier<39>::new` that the checker doesn't prove by itself.
use Rattle.std.proofs.Common.{sym, ap, ◌∙◌, arith}
use Rattle.const_oid.specs.Bound.{Bound}
use Rattle.const_oid.specs.TextReading.{read_text}
use Rattle.const_oid.proofs.BoundLaws.{Bound-is}
use Rattle.const_oid.proofs.TextFaultLaws.{answer_ok, answer_fault, text_read}
use Rattle.const_oid.proofs.OverflowLaws.{text_not_overflow}
use Rattle.const_oid.proofs.object_identifier.ObjectIdentifier+39.new.Goals as goal

pub returns-clause-ok : goal.returns-clause-ok
returns-clause-ok c = answer_ok Bound 39 c.args.s.now c.read.result (c.read.ensures ∙ ap (read_text Bound 39) c.as_bytes.ensures.value)

pub returns-clause-spelled : goal.returns-clause-spelled
returns-clause-spelled c arcs text id fits =
    c.read.ensures ∙ ap (read_text Bound 39) c.as_bytes.ensures.value ∙ text_read Bound 39 c.args.s.now arcs (omega (arith, Bound-is)) text id fits

pub returns-clause-fault : goal.returns-clause-fault
returns-clause-fault c = answer_fault Bound 39 c.args.s.now c.read.result (c.read.ensures ∙ ap (read_text Bound 39) c.as_bytes.ensures.value)

pub returns-clause-never_overflow : goal.returns-clause-never_overflow
returns-clause-never_overflow c h = text_not_overflow Bound 39 c.as_bytes.result.now (sym c.read.ensures ∙ h)
