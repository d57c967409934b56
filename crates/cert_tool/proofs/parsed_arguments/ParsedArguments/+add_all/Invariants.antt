-- The loop invariants of `parsed_arguments::ParsedArguments::add_all`.
use Rattle.std.proofs.Common.{length}
use Rattle.cert_tool.proofs.parsed_arguments.ParsedArguments.+add_all.Given as goal

abbrev pub decreases-add_all : goal.decreases-add_all
decreases-add_all l = length l.words.now
