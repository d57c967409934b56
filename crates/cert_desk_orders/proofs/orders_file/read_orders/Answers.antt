-- Goals of `orders_file::read_orders` that the checker doesn't prove by itself.
use Rattle.std.proofs.Common.{◌≤◌, length, length-drop, arith, subst}
use Rattle.std.proofs.lemmas.List.{take_rest}
use Rattle.std.proofs.lemmas.Result.{err_from_is_err_and}
use Rattle.cert_desk_orders.specs.OrderReading.{lines_plain}
use Rattle.cert_desk_orders.proofs.OrderLines.{IsReadTo-none, IsReadTo-said, IsReadTo-sound, none_left, read_more, read_none}
use Rattle.cert_desk_orders.proofs.orders_file.read_orders.Goals as goal

pub orders-init : goal.orders-init
orders-init c = (omega arith, IsReadTo-none (lines_plain c.args.lines.now) c.new-orders.result.items c.new-orders.ensures.items)

pub returns-in_err-order-clause-refused : goal.returns-in_err-order-clause-refused
returns-in_err-order-clause-refused c =
    let lines = c.args.lines.now in
    let p = err_from_is_err_and c.from_residual.result c.from_residual.ensures.1 in
    rw (p.1, p.2) (read_none lines c.orders.start c.order_len-length.result c.orders-test.true _ (take_rest lines c.orders.start)
    c.order_len-length.ensures.length c.orders.orders.items c.orders.invariant.1 c.in_err-order.field-0.0 c.in_err-order.ensures.refused)

pub orders-preserved : goal.orders-preserved
orders-preserved c =
    let lines = c.args.lines.now in
    let rest = length-drop c.orders.start lines in
    let same = take_rest lines c.orders.start in
    let within = subst (λ ls. c.order_len-length.result ≤ length ls) same c.order_len-length.ensures.within in (
      omega (arith, rest, within, c.orders-test.true),
      read_more lines c.orders.start c.order_len-length.result c.orders-test.true _ same
          c.order_len-length.ensures.length c.orders.orders.items c.orders.invariant.1 c.in_ok-order.order c.push.new.self.items c.in_ok-order.ensures.sound c.in_ok-order.ensures.said c.in_ok-push.ensures.items,
    )

pub returns-clause-sound : goal.returns-clause-sound
returns-clause-sound c =
    IsReadTo-sound (lines_plain c.args.lines.now) c.orders.orders.items _ c.orders.invariant.1 (none_left c.args.lines.now c.orders.start c.orders-test.false)

pub returns-clause-said : goal.returns-clause-said
returns-clause-said c =
    IsReadTo-said (lines_plain c.args.lines.now) c.orders.orders.items _ c.orders.invariant.1 (none_left c.args.lines.now c.orders.start c.orders-test.false)
