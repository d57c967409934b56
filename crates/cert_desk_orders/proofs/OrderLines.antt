-- The lines of orders, order by order.
use Rattle.std.proofs.Common.{◌≡◌, ℕ, suc, ◌+◌, ◌<◌, arith, Bool, true, false, cond, not, List, [], ◌∷◌, ◌++◌, append-nil, append_assoc, ◌≤◌, length, length-drop, map, take, drop, drop-drop, drop_of_length-le, codes, Some, None, refl, ap, ap₂, sym, ◌∙◌, subst, subst₂, Bor}
use Rattle.std.proofs.lemmas.List.{drop-map, length-map, map-append, take-map}
use Rattle.std.specs.List.{position_or_len}
use Rattle.std.specs.Option.{option_or}
use Rattle.cert_desk_orders.specs.declared.line.Line.{Line}
use Rattle.cert_desk_orders.specs.declared.order.Order.{Order}
use Rattle.cert_desk_orders.specs.declared.orders_error.OrdersError.{OrdersError}
use Rattle.cert_desk_orders.specs.declared.orders_error.OrdersError.TheVariants as errors
use Rattle.cert_desk_orders.specs.OrdersFile.{PlainLine, SayOrder, SayOrders, before_order, by_order, first_fault, has, order_fault}
use Rattle.cert_desk_orders.specs.OrderReading.{IsFaultIn, line_plain, lines_plain, order_len}

abbrev to_order : List PlainLine → ℕ
to_order lines = position_or_len (has (codes "order")) lines

-- A line before an order whose lines are known.
joined : (line next : PlainLine) (more : List PlainLine) (b : Bool)
    → by_order (next ∷ more) ≡ (next ∷ take (to_order more) more) ∷ by_order (drop (to_order more) more)
    → cond b ((line ∷ []) ∷ (next ∷ take (to_order more) more) ∷ by_order (drop (to_order more) more))
    ((line ∷ next ∷ take (to_order more) more) ∷ by_order (drop (to_order more) more))
    ≡ (line ∷ take (cond (not b) (1 + to_order more) 0) (next ∷ more)) ∷ by_order (drop (cond (not b) (1 + to_order more) 0) (next ∷ more))
joined line next more true e = ap (λ orders. (line ∷ []) ∷ orders) (sym e)
joined line next more false e =
    let one : suc (to_order more) ≡ 1 + to_order more = omega arith in
    ap (λ n. (line ∷ take n (next ∷ more)) ∷ by_order (drop n (next ∷ more))) one

by_order-first : (line : PlainLine) (more : List PlainLine)
    → by_order (line ∷ more) ≡ (line ∷ take (to_order more) more) ∷ by_order (drop (to_order more) more)
by_order-first line [] = refl
by_order-first line (next ∷ more) =
    ap (before_order line) (by_order-first next more) ∙ joined line next more (has (codes "order") next) (by_order-first next more)

-- The lines of the first order, and those of the others.
pub by_order-split : (lines : List PlainLine) → 0 < length lines
    → by_order lines ≡ take (order_len lines) lines ∷ by_order (drop (order_len lines) lines)
by_order-split [] some = absurd (omega arith)
by_order-split (line ∷ more) some =
    let one : suc (to_order more) ≡ to_order more + 1 = omega arith in
    by_order-first line more ∙ ap (λ n. take n (line ∷ more) ∷ by_order (drop n (line ∷ more))) one

-- Some lines are left after those that describe these orders, none of which is wrong.
pub record IsReadTo (all : List PlainLine) (orders : List Order) (left : List PlainLine) : Type 0 where
  pub fault : first_fault (by_order left) ≡ first_fault (by_order all)
  pub said : (more : List Order) → SayOrders (by_order left) more → SayOrders (by_order all) (orders ++ more)

-- All lines are left before the first order.
pub IsReadTo-none : (all : List PlainLine) (orders : List Order) → orders ≡ [] → IsReadTo all orders all
IsReadTo-none all orders e = record {
  fault = refl;
  said = λ more h. subst (λ os. SayOrders (by_order all) (os ++ more)) (sym e) h;
}

-- No line is left.
pub IsReadTo-sound : (all : List PlainLine) (orders : List Order) (left : List PlainLine) → IsReadTo all orders left → length left ≡ 0
    → first_fault (by_order all) ≡ None
IsReadTo-sound all orders [] is none = sym is.fault
IsReadTo-sound all orders (line ∷ more) is none = absurd (omega arith)

pub IsReadTo-said : (all : List PlainLine) (orders : List Order) (left : List PlainLine) → IsReadTo all orders left → length left ≡ 0
    → SayOrders (by_order all) orders
IsReadTo-said all orders [] is none = subst (λ os. SayOrders (by_order all) os) (append-nil orders) (is.said [] tt)
IsReadTo-said all orders (line ∷ more) is none = absurd (omega arith)

module _ (all : List PlainLine) (orders : List Order) (left : List PlainLine) (is : IsReadTo all orders left) (some : 0 < length left) where
  -- One more order.
  IsReadTo-more : (o : Order) → order_fault (take (order_len left) left) ≡ None → SayOrder (take (order_len left) left) o
      → IsReadTo all (orders ++ o ∷ []) (drop (order_len left) left)
  IsReadTo-more o sound says = record {
    fault = sym (ap (λ fault. option_or fault (first_fault (by_order (drop (order_len left) left)))) sound)
        ∙ sym (ap first_fault (by_order-split left some)) ∙ is.fault;
    said = λ more h. subst (λ os. SayOrders (by_order all) os) (sym (append_assoc orders (o ∷ []) more))
        (is.said (o ∷ more) (subst (λ groups. SayOrders groups (o ∷ more)) (sym (by_order-split left some)) (says, h)));
  }

  faulty : (number : ℕ) → order_fault (take (order_len left) left) ≡ Some number → first_fault (by_order all) ≡ Some number
  faulty number e =
      sym is.fault ∙ ap first_fault (by_order-split left some)
      ∙ ap (λ fault. option_or fault (first_fault (by_order (drop (order_len left) left)))) e

  -- The error of the next order is the first error of all.
  IsFaultIn-all : (error : OrdersError) → IsFaultIn (order_fault (take (order_len left) left)) error → IsFaultIn (first_fault (by_order all)) error
  IsFaultIn-all (errors.Line number) e = faulty number e
  IsFaultIn-all errors.OutOfMemory e = tt

-- Lines that are parsed from an index on.
module _ (lines : List Line) (start n : ℕ) (below : start < length lines) (rest : List Line) (left : rest ≡ drop start lines) (len : n ≡ order_len (lines_plain rest)) where
  behind : n ≡ order_len (lines_plain (drop start lines))
  behind = len ∙ ap (λ ls. order_len (lines_plain ls)) left

  some : 0 < length (lines_plain (drop start lines))
  some =
      let plain = length-map (drop start lines) line_plain in
      let there = length-drop start lines in
      omega (arith, plain, there)

  group : lines_plain (take n rest) ≡ take (order_len (lines_plain (drop start lines))) (lines_plain (drop start lines))
  group =
      ap (λ ls. lines_plain (take n ls)) left ∙ sym (take-map line_plain n (drop start lines))
      ∙ ap (λ k. take k (lines_plain (drop start lines))) behind

  others : lines_plain (drop (start + n) lines) ≡ drop (order_len (lines_plain (drop start lines))) (lines_plain (drop start lines))
  others =
      ap (map line_plain) (sym (drop-drop n start lines)) ∙ sym (drop-map line_plain n (drop start lines))
      ∙ ap (λ k. drop k (lines_plain (drop start lines))) behind

  -- The lines of one more order.
  pub grouped_more : (orders more : List (Bor (List Line))) (order : Bor (List Line)) → order.now ≡ take n rest → more ≡ orders ++ order ∷ []
      → map (λ o. lines_plain o.now) orders ++ by_order (lines_plain (drop start lines)) ≡ by_order (lines_plain lines)
      → map (λ o. lines_plain o.now) more ++ by_order (lines_plain (drop (start + n) lines)) ≡ by_order (lines_plain lines)
  grouped_more orders more order here e is =
      let left = by_order (lines_plain (drop (start + n) lines)) in
      ap (λ os. map (λ o. lines_plain o.now) os ++ left) e
      ∙ ap (λ os. os ++ left) (map-append (λ o. lines_plain o.now) orders (order ∷ []))
      ∙ append_assoc (map (λ o. lines_plain o.now) orders) (lines_plain order.now ∷ []) left
      ∙ ap (λ os. map (λ o. lines_plain o.now) orders ++ os)
      (ap (λ ls. lines_plain ls ∷ left) here ∙ ap₂ (λ o ls. o ∷ by_order ls) group others ∙ sym (by_order-split (lines_plain (drop start lines)) some))
      ∙ is

  module _ (orders : List Order) (is : IsReadTo (lines_plain lines) orders (lines_plain (drop start lines))) where
    pub read_more : (o : Order) (more : List Order) → order_fault (lines_plain (take n rest)) ≡ None
        → SayOrder (lines_plain (take n rest)) o → more ≡ orders ++ o ∷ []
        → IsReadTo (lines_plain lines) more (lines_plain (drop (start + n) lines))
    read_more o more sound says e =
        subst₂ (λ ls os. IsReadTo (lines_plain lines) os ls) (sym others) (sym e)
        (IsReadTo-more (lines_plain lines) orders (lines_plain (drop start lines)) is some o (ap order_fault (sym group) ∙ sound)
        (subst (λ ls. SayOrder ls o) group says))

    pub read_none : (error : OrdersError) → IsFaultIn (order_fault (lines_plain (take n rest))) error
        → IsFaultIn (first_fault (by_order (lines_plain lines))) error
    read_none error fault =
        IsFaultIn-all (lines_plain lines) orders (lines_plain (drop start lines)) is some error
        (subst (λ ls. IsFaultIn (order_fault ls) error) group fault)

pub none_left : (lines : List Line) (start : ℕ) → length lines ≤ start → length (lines_plain (drop start lines)) ≡ 0
none_left lines start end = ap (λ ls. length (lines_plain ls)) (drop_of_length-le lines end)

-- No lines are left, so these are the orders.
pub grouped_all : (lines : List Line) (start : ℕ) (orders : List (List PlainLine)) → length lines ≤ start
    → orders ++ by_order (lines_plain (drop start lines)) ≡ by_order (lines_plain lines) → orders ≡ by_order (lines_plain lines)
grouped_all lines start orders end is =
    sym (append-nil orders) ∙ ap (λ ls. orders ++ by_order (lines_plain ls)) (sym (drop_of_length-le lines end)) ∙ is
