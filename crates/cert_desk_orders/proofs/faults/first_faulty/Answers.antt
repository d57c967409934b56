-- Goals of `faults::first_faulty` that the checker doesn't prove by itself.
use Rattle.std.proofs.Common.{sym, ◌∙◌}
use Rattle.cert_desk_orders.proofs.FaultyLines.{first_faulty-here, first_faulty-later, first_faulty-none}
use Rattle.cert_desk_orders.proofs.faults.first_faulty.Goals as goal

pub returns-then-branch : goal.returns-then-branch
returns-then-branch c =
    sym (first_faulty-here c.args.lines.now c.loop-index.index _ c.loop-index-test.true (sym c.in_ok-is_faulty.ensures ∙ c.if-branch.true)) ∙ c.loop-index.invariant

pub loop-index-preserved : goal.loop-index-preserved
loop-index-preserved c =
    first_faulty-later c.args.lines.now c.loop-index.index _ c.loop-index-test.true (sym c.in_ok-is_faulty.ensures ∙ c.if-branch.false) ∙ c.loop-index.invariant

pub returns : goal.returns
returns c = first_faulty-none c.args.lines.now c.loop-index.index c.loop-index-test.false ∙ c.loop-index.invariant
