-- The recursion of `running::any_version` ends, since fewer arguments are left each time.
use Rattle.std.proofs.Common.{length}
use Rattle.cert_tool.proofs.running.+any_version.Given as goal

abbrev pub decreases-any_version : goal.decreases-any_version
decreases-any_version l = length l.words.now
