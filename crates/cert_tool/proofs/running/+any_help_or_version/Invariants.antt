-- The recursion of `running::any_help_or_version` ends, since fewer arguments are left each time.
use Rattle.std.proofs.Common.{length}
use Rattle.cert_tool.proofs.running.+any_help_or_version.Given as goal

abbrev pub decreases-any_help_or_version : goal.decreases-any_help_or_version
decreases-any_help_or_version l = length l.words.now
