-- Goals of `reason_lines::reason_line` that the checker doesn't prove by itself.
use Rattle.std.proofs.Common.{◌≡◌, IfOk, string_bytes, sym, subst}
use Rattle.cert_desk_orders.specs.Reasons.{reason}
use Rattle.cert_desk_orders.proofs.reason_lines.reason_line.Goals as goal

pub returns-in-BeforeOrders : goal.returns-in-BeforeOrders
returns-in-BeforeOrders c =
    let wrong = c.args.wrong.now in
    subst (λ why. IfOk c.word_line.result (λ text. string_bytes text ≡ reason wrong.number wrong.word.now why))
    (sym c.in-BeforeOrders.is) c.word_line.ensures

pub returns-in-MissingWord : goal.returns-in-MissingWord
returns-in-MissingWord c =
    let wrong = c.args.wrong.now in
    subst (λ why. IfOk c.format-in-MissingWord.result (λ text. string_bytes text ≡ reason wrong.number wrong.word.now why))
    (sym c.in-MissingWord.is) c.format-in-MissingWord.ensures.ok

pub returns-in-NoValue : goal.returns-in-NoValue
returns-in-NoValue c =
    let wrong = c.args.wrong.now in
    subst (λ why. IfOk c.word_line-in-NoValue.result (λ text. string_bytes text ≡ reason wrong.number wrong.word.now why))
    (sym c.in-NoValue.is) c.word_line-in-NoValue.ensures

pub returns-in-HasValue : goal.returns-in-HasValue
returns-in-HasValue c =
    let wrong = c.args.wrong.now in
    subst (λ why. IfOk c.word_line-in-HasValue.result (λ text. string_bytes text ≡ reason wrong.number wrong.word.now why))
    (sym c.in-HasValue.is) c.word_line-in-HasValue.ensures

pub returns-in-Repeated : goal.returns-in-Repeated
returns-in-Repeated c =
    let wrong = c.args.wrong.now in
    subst (λ why. IfOk c.word_line-in-Repeated.result (λ text. string_bytes text ≡ reason wrong.number wrong.word.now why))
    (sym c.in-Repeated.is) c.word_line-in-Repeated.ensures
