-- Goals of `orders_file::orders_in` that the checker doesn't prove by itself.
use Rattle.std.proofs.Common.{◌≡◌, None, ap, ◌∙◌, subst}
use Rattle.std.proofs.lemmas.Result.{err_from_is_err_and}
use Rattle.cert_desk_orders.specs.OrderReading.{IsFaultIn, lines_plain}
use Rattle.cert_desk_orders.specs.OrdersFile.{SayOrders, by_order, first_fault}
use Rattle.cert_desk_orders.proofs.orders_file.orders_in.Goals as goal

pub returns-in_err-orders-clause-refused : goal.returns-in_err-orders-clause-refused
returns-in_err-orders-clause-refused c =
    let lines = ap lines_plain c.as_slice.ensures.value ∙ c.in_ok-lines.ensures in
    let p = err_from_is_err_and c.from_residual-in_err-orders.result c.from_residual-in_err-orders.ensures.1 in
    rw (p.1, p.2) (subst (λ ls. IsFaultIn (first_fault (by_order ls)) c.in_err-orders.field-0.0) lines c.in_err-orders.ensures.refused)

pub returns-clause-said : goal.returns-clause-said
returns-clause-said c =
    let lines = ap lines_plain c.as_slice.ensures.value ∙ c.in_ok-lines.ensures in
    record {
      sound = subst (λ ls. first_fault (by_order ls) ≡ None) lines c.in_ok-orders.ensures.sound;
      said = subst (λ ls. SayOrders (by_order ls) c.in_ok-orders.orders.items) lines c.in_ok-orders.ensures.said;
    }
