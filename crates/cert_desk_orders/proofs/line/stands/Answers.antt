-- Goals of `line::stands` that the checker doesn't prove by itself.
use Rattle.std.proofs.Common.{rules, tests, ◌∙◌}
use Rattle.std.proofs.lemmas.Iterator.{YieldsList-from_slice}
use Rattle.std.proofs.lemmas.Iterator.Search.{any_from_yields_List}
use Rattle.cert_desk_orders.specs.OrderReading.{line_plain}
use Rattle.cert_desk_orders.specs.OrdersFile.{has}
use Rattle.cert_desk_orders.proofs.LineLists.{list_any-map}
use Rattle.cert_desk_orders.proofs.line.stands.Goals as goal

pub returns : goal.returns
returns c =
    any_from_yields_List (λ line. has c.args.word.now (line_plain line)) _ _ _ c.any.ensures.ran (YieldsList-from_slice c.args.lines.now cc) (λ x b q k. search (rules, tests))
    ∙ list_any-map line_plain (has c.args.word.now) c.args.lines.now
