-- Goals of `contents::value_cmp_behind` that the checker doesn't prove by itself.
use Rattle.std.proofs.Common.{rules, ◌≡◌, ap, sym, ◌∙◌}
use Rattle.std.specs.List.{cons_option}
use Rattle.std.specs.Ordering.{ordering_reverse}
use Rattle.std.specs.Cmp.Lexicographic.{nat_list_cmp_total}
use Rattle.der_core.specs.Orders.{octets_cmp}
use Rattle.der_core.proofs.contents.value_cmp_behind.Goals as goal

pub returns-in-None-Some : goal.returns-in-None-Some
returns-in-None-Some c =
    let mine = cons_option c.args.lead c.args.octets.now in
    let theirs = cons_option c.args.other_lead c.args.other.now in
    let turned : octets_cmp theirs mine ≡ c.led_cmp.result = search rules in
    c.reverse.ensures ∙ ap ordering_reverse (sym turned) ∙ sym (nat_list_cmp_total.antisymm mine theirs)
