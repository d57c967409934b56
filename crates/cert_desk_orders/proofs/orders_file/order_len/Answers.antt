-- Goals of `orders_file::order_len` that the checker doesn't prove by itself.
use Rattle.std.proofs.Common.{◌≡◌, ℕ, ◌+◌, ◌≤◌, arith, rules, tests, Bool, true, false, cond, ltb, ltb-true, ltb-false, List, length, length-drop, drop, take_all, le_of_eq, not, codes, Some, None, unwrap_or, refl, ap, sym, ◌∙◌}
use Rattle.std.proofs.lemmas.Iterator.{YieldsList-from_slice}
use Rattle.std.proofs.lemmas.Iterator.Search.{position_from_yields_List}
use Rattle.std.proofs.lemmas.List.{drop-map}
use Rattle.std.proofs.lemmas.List.Sums.{prefix_len-le-length}
use Rattle.std.specs.List.{position_or_len}
use Rattle.cert_desk_orders.specs.declared.line.Line.{Line}
use Rattle.cert_desk_orders.specs.OrderReading.{line_plain, lines_plain, order_len}
use Rattle.cert_desk_orders.specs.OrdersFile.{has}
use Rattle.cert_desk_orders.proofs.LineLists.{position_or_len-map}
use Rattle.cert_desk_orders.proofs.orders_file.order_len.Goals as goal

at_place : (b : Bool) (place found : ℕ) → Some found ≡ cond b (Some place) None → (b ≡ true) × (found ≡ place)
at_place true place found e = (refl, ap (λ o. unwrap_or o 0) e)
at_place false place found e = absurd cc

at_none : (b : Bool) (place : ℕ) → None ≡ cond b (Some place) None → b ≡ false
at_none true place e = absurd cc
at_none false place e = refl

abbrev begins : Line → Bool
begins line = has (codes "order") (line_plain line)

len_is : (lines : List Line) → position_or_len begins (drop 1 lines) + 1 ≡ order_len (lines_plain lines)
len_is lines =
    ap (λ n. n + 1) (position_or_len-map line_plain (has (codes "order")) (drop 1 lines) ∙ ap (position_or_len (has (codes "order"))) (sym (drop-map line_plain 1 lines)))

pub returns-in-Some : goal.returns-in-Some
returns-in-Some c =
    let rest = drop 1 c.args.lines.now in
    let behind = length-drop 1 c.args.lines.now in
    let rest_is = c.iter.ensures.rest ∙ take_all _ rest (le_of_eq behind) in
    let place = at_place (ltb (position_or_len begins rest) (length rest)) (position_or_len begins rest) c.in-Some.others
    (sym c.in-Some.is ∙ position_from_yields_List begins _ _ c.position.result c.position.ensures.ran (YieldsList-from_slice rest rest_is) (λ x b q k. search (rules, tests))) in
    let below = ltb-true (position_or_len begins rest) (length rest) place.0 in
    record {
      length = ap (λ n. n + 1) place.1 ∙ len_is c.args.lines.now;
      within = omega (arith, below, behind, place.1);
    }

pub returns-in-None : goal.returns-in-None
returns-in-None c =
    let rest = drop 1 c.args.lines.now in
    let behind = length-drop 1 c.args.lines.now in
    let rest_is = c.iter.ensures.rest ∙ take_all _ rest (le_of_eq behind) in
    let none = at_none (ltb (position_or_len begins rest) (length rest)) (position_or_len begins rest)
    (sym c.in-None.is ∙ position_from_yields_List begins _ _ c.position.result c.position.ensures.ran (YieldsList-from_slice rest rest_is) (λ x b q k. search (rules, tests))) in
    let least = ltb-false (position_or_len begins rest) (length rest) none in
    let most : position_or_len begins rest ≤ length rest = prefix_len-le-length (λ line. not (begins line)) rest in
    let all : length c.args.lines.now ≡ position_or_len begins rest + 1 = omega (arith, least, most, behind, c.requires) in
    record {
      length = all ∙ len_is c.args.lines.now;
      within = omega arith;
    }
