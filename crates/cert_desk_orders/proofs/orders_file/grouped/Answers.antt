-- Goals of `orders_file::grouped` that the checker doesn't prove by itself.
use Rattle.std.proofs.Common.{◌≤◌, length, length-drop, arith, refl, subst}
use Rattle.std.proofs.lemmas.List.{take_rest}
use Rattle.cert_desk_orders.proofs.OrderLines.{grouped_all, grouped_more}
use Rattle.cert_desk_orders.proofs.orders_file.grouped.Goals as goal

pub orders-preserved : goal.orders-preserved
orders-preserved c =
    let lines = c.args.lines.now in
    let rest = length-drop c.orders.start lines in
    let same = take_rest lines c.orders.start in
    let within = subst (λ ls. c.order_len-length.result ≤ length ls) same c.order_len-length.ensures.within in (
      omega (arith, rest, within, c.orders-test.true),
      grouped_more lines c.orders.start c.order_len-length.result c.orders-test.true _ same c.order_len-length.ensures.length
          c.orders.orders.items c.push.new.self.items _ refl c.in_ok-push.ensures.items c.orders.invariant.1,
    )

pub returns : goal.returns
returns c = grouped_all c.args.lines.now c.orders.start _ c.orders-test.false c.orders.invariant.1
