-- Goals of `line::Line::new` that the checker doesn't prove by itself.
use Rattle.std.proofs.Common.{lit<, Some, None, ap, ◌∙◌}
use Rattle.std.proofs.lemmas.Str.Pattern.{split_once_first}
use Rattle.cert_desk_orders.specs.OrdersFile.{line_of}
use Rattle.cert_desk_orders.proofs.LineTexts.{line_of-alone, line_of-blank, line_of-wordless}
use Rattle.cert_desk_orders.proofs.line.Line.new.Goals as goal

pub returns-in_default : goal.returns-in_default
returns-in_default c = line_of-wordless c.args.number c.args.octets.now c.in_default.ensures.cases.0

pub returns-in-Some : goal.returns-in-Some
returns-in-Some c =
    let text = c.in-Ok.ensures.cases.0 in
    let split = split_once_first 32 c.in-Ok.text.now (Some (c.in-Some.word, c.in-Some.value)) c.in-Some.ensures.cases (lit< tt) in
    line_of-blank c.args.number c.in-Ok.text.now c.in-Some.word.now c.in-Some.value.now (rw text c.in-Ok.ensures.cases.1) split.0 split.1 split.2
    ∙ ap (line_of c.args.number) text

pub returns-in-None : goal.returns-in-None
returns-in-None c =
    let text = c.in-Ok.ensures.cases.0 in
    line_of-alone c.args.number c.in-Ok.text.now (rw text c.in-Ok.ensures.cases.1) (split_once_first 32 c.in-Ok.text.now None c.in-None.ensures.cases (lit< tt))
    ∙ ap (line_of c.args.number) text
