-- The recursion of `several_files::run_each` ends, since fewer files are left each time.
use Rattle.std.proofs.Common.{length}
use Rattle.cert_tool.proofs.several_files.+run_each.Given as goal

abbrev pub decreases-run_each : goal.decreases-run_each
decreases-run_each g l = length l.names.now
