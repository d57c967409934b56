-- The parts that the calls return are those between the dots.
use Rattle.std.proofs.Common.{rules, lit<}
use Rattle.std.proofs.lemmas.Iterator.Search.{all_from_yields_List}
use Rattle.std.proofs.lemmas.Iterator.Splits.{YieldsList-from_str_split}
use Rattle.cert_tool_hosts.specs.Hosts.{is_label}
use borrow.Author.Tests.{tests}
use Rattle.cert_tool_hosts.proofs.host.are_labels.Goals as goal

pub returns : goal.returns
returns c =
    all_from_yields_List is_label _ _ _ c.all.ensures.ran
    (YieldsList-from_str_split 46 c.args.text.now (lit< tt) c.split.ensures.text c.split.ensures.has_more c.split.ensures.pattern)
    (λ x b q k. search (rules, tests))
