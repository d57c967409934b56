-- Goals of `sorting::put_apart` that the checker doesn't prove by itself.
use Rattle.std.proofs.Common.{arith, rules, ap, sym, ◌∙◌, ◌++◌, ◌∷◌, [], List, length, map, Some, Option}
use Rattle.std.proofs.lemmas.List.{length-append, length-map, append_assoc, map-append}
use Rattle.der_types_sets.proofs.sorting.put_apart.Goals as goal

pub push_reserved-requires : goal.push_reserved-requires
push_reserved-requires g c =
    let inv = c.loop-member.invariant in
    let all = ap (λ (u : List g.row.T.Denot). length u) inv.all in
    let items = ap (λ (u : List (Option g.row.T.Denot)). length u) inv.items in
    let rest = ap (λ (u : List g.row.T.Denot). length u) c.in-Some.ensures.steps.0 in
    omega (arith, all, items, rest, length-append c.loop-member.yielded c.loop-member.member-iterator.rest.items, length-append c.args.apart.now.items (map (λ x. Some x) c.loop-member.yielded), length-map c.loop-member.yielded (λ x. Some x), c.loop-member.apart.ok.0, c.args.apart.now.ok.0, c.args.members.ok.0, inv.capacity, c.requires)

pub loop-member-preserved : goal.loop-member-preserved
loop-member-preserved g c =
    let inv = c.loop-member.invariant in
    let y = c.loop-member.yielded in
    let x = c.in-Some.member in
    record {
      can = search rules;
      ends = search rules;
      all = append_assoc y (x ∷ []) c.next.new.self.rest.items ∙ ap (λ (u : List g.row.T.Denot). y ++ u) (sym c.in-Some.ensures.steps.0) ∙ inv.all;
      items = c.push_reserved.ensures.items ∙ ap (λ (u : List (Option g.row.T.Denot)). u ++ Some x ∷ []) inv.items ∙ append_assoc c.args.apart.now.items (map (λ z. Some z) y) (Some x ∷ []) ∙ ap (λ (u : List (Option g.row.T.Denot)). c.args.apart.now.items ++ u) (sym (map-append (λ z. Some z) y (x ∷ [])));
      capacity = c.push_reserved.ensures.capacity ∙ inv.capacity;
    }
