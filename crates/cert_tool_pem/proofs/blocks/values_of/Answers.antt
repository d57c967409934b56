-- Goals of `blocks::values_of` that the checker doesn't prove by itself.
use Rattle.std.proofs.Common.{rules}
use Rattle.cert_tool_pem.proofs.LinesRead.{faulty_line, next_line}
use Rattle.cert_tool_pem.proofs.blocks.values_of.Goals as goal

pub returns-in-Err-clause-refused : goal.returns-in-Err-clause-refused
returns-in-Err-clause-refused c =
    faulty_line c.args.wanted c.args.lines.now _ c.loop-line.line-index c.loop-line-test.true _ _ _ c.in-Err.error (search rules) c.loop-line.invariant.1 c.in-Err.ensures.refused

pub loop-line-preserved : goal.loop-line-preserved
loop-line-preserved c =
    (search rules, next_line c.args.wanted c.args.lines.now _ c.loop-line.line-index c.loop-line-test.true _ _ _ _ (search rules) c.loop-line.invariant.1 c.in_default.ensures.read)
