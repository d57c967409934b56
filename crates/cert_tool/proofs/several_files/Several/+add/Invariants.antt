-- The recursion of `several_files::Several::add` ends, since fewer arguments are left each time.
use Rattle.std.proofs.Common.{length}
use Rattle.cert_tool.proofs.several_files.Several.+add.Given as goal

abbrev pub decreases-add : goal.decreases-add
decreases-add l = length l.words.now
