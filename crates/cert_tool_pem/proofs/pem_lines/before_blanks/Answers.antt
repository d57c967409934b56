-- Goals of `pem_lines::before_blanks` that the checker doesn't prove by itself.
use Rattle.std.proofs.Common.{arith, sym, ◌∙◌}
use Rattle.cert_tool_pem.proofs.Blanks.{kept, less, not_so}
use Rattle.cert_tool_pem.proofs.pem_lines.before_blanks.Goals as goal

pub returns-then-not-is_blank : goal.returns-then-not-is_blank
returns-then-not-is_blank c =
    sym (kept c.args.line.now c.loop-end.end 0 c.loop-end-test.true c.loop-end.invariant.0 (not_so c.is_blank.result _ c.is_blank.ensures c.if-not-is_blank.true)) ∙ c.loop-end.invariant.1

pub loop-end-preserved : goal.loop-end-preserved
loop-end-preserved c = (
  omega (arith, c.loop-end.invariant.0),
  less c.args.line.now c.loop-end.end 0 c.loop-end-test.true c.loop-end.invariant.0 (sym c.is_blank.ensures ∙ c.if-not-is_blank.false) ∙ c.loop-end.invariant.1,
)
