-- Goals of `splitting::reversed` that the checker doesn't prove by itself.
use Rattle.std.proofs.Common.{rules, ◌∙◌}
use Rattle.cert_tool_explain.proofs.DeskChecking.PlaceLaws.{entry_at}
use Rattle.cert_tool.proofs.SplitLaws.{reversed_more}
use Rattle.cert_tool.proofs.splitting.reversed.Goals as goal

pub loop-left-preserved : goal.loop-left-preserved
loop-left-preserved c =
    let entry = entry_at _ _ _ _ _ c.get.ensures.entry c.unwrap.ensures in (
      search rules,
      c.in_ok-extend_from_slice.ensures.items ∙ reversed_more c.args.bundle.now.certificates c.loop-left.left c.unwrap.result _ c.loop-left-test.true entry c.loop-left.invariant.1,
    )
