-- Goals of `line::find` that the checker doesn't prove by itself.
use Rattle.std.proofs.Common.{◌≡◌, Option, Some, None, rules, tests, refl, ap, ◌∙◌}
use Rattle.std.proofs.lemmas.Iterator.{YieldsList-from_slice}
use Rattle.std.proofs.lemmas.Iterator.Search.{find_from_yields_List}
use Rattle.std.specs.List.{find}
use Rattle.std.specs.Option.{option_map}
use Rattle.x509_cert_parts.specs.Der.Grammar.{plain_option}
use Rattle.cert_desk_orders.specs.declared.line.Line.{Line}
use Rattle.cert_desk_orders.specs.OrderReading.{line_plain}
use Rattle.cert_desk_orders.specs.OrdersFile.{has}
use Rattle.cert_desk_orders.proofs.LineLists.{find-map}
use Rattle.cert_desk_orders.proofs.line.find.Goals as goal

plain_option-is : (line : Option Line) → plain_option line_plain line ≡ option_map line_plain line
plain_option-is None = refl
plain_option-is (Some line) = refl

pub returns : goal.returns
returns c =
    let found = find_from_yields_List (λ line. has c.args.word.now (line_plain line)) _ _ c.find.result c.find.ensures.ran (YieldsList-from_slice c.args.lines.now cc) (λ x b q k. search (rules, tests)) in
    ap (plain_option line_plain) (c.copied.ensures ∙ found)
    ∙ plain_option-is (find (λ line. has c.args.word.now (line_plain line)) c.args.lines.now)
    ∙ find-map line_plain (has c.args.word.now) c.args.lines.now
