-- Goals of `arcs::arc_at` that the checker doesn't prove by itself.
use Rattle.std.proofs.Common.{sym, ◌∙◌, arith}
use Rattle.const_oid.specs.Arcs.{arcs_of}
use Rattle.const_oid.specs.References.{remaining_arcs}
use Rattle.const_oid.proofs.ArcsLaws.{none_left, next_left, at_next}
use Rattle.const_oid.proofs.arcs.arc_at.Goals as goal

pub returns-in_default : goal.returns-in_default
returns-in_default c = none_left (arcs_of c.args.octets.now) c.loop-before._before c.args.index (sym c.loop-before.invariant ∙ c.in_default.ensures.steps.0) (omega arith)

pub loop-before-preserved : goal.loop-before-preserved
loop-before-preserved c =
    (next_left (arcs_of c.args.octets.now) c.loop-before._before c.in-Some.field-0 (remaining_arcs c.next.new.self) (sym c.loop-before.invariant ∙ c.in-Some.ensures.steps)).1

pub returns : goal.returns
returns c =
    at_next c.next-2.result (remaining_arcs c.loop-before.arcs) (remaining_arcs c.next-2.new.self) (arcs_of c.args.octets.now) c.loop-before._before c.args.index
    c.next-2.ensures.steps c.loop-before.invariant (omega arith) (omega arith)
