-- The loop invariants of `help::help_of`.
use Rattle.std.proofs.Common.{length}
use Rattle.cert_tool.proofs.help.+help_of.Given as goal

abbrev pub decreases-help_of : goal.decreases-help_of
decreases-help_of l = length l.words.now
