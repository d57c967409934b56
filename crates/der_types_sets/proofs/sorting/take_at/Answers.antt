-- Goals of `sorting::take_at` that the checker doesn't prove by itself.
use Rattle.std.proofs.Common.{ℕ, arith, rules, length, ◌<◌, ◌≡◌, List, None, Some, get_or, set, refl, ap, sym, ◌∙◌, IsPermutation}
use Rattle.std.specs.List.{range_with_len}
use Rattle.std.proofs.lemmas.List.{length-set, get_or_default, take_all}
use Rattle.der_types_sets.specs.Rearranged.{members_at}
use Rattle.der_types_sets.proofs.Arranged.{places_below, offset_fits, all_apart, untaken_here, untaken_more, taken_more, as_many}
use Rattle.der_types_sets.proofs.sorting.take_at.Goals as goal

pub loop-count-init : goal.loop-count-init
loop-count-init g c = record {
  long = refl;
  capacity = refl;
  few = omega (arith, ap (λ (u : List g.row.T.Denot). length u) c.requires.none);
  taken = λ xs d is. c.requires.none;
  left = λ xs is. all_apart xs c.args.places.now c.args.apart.now is;
}

pub bounds-apart-places : goal.bounds-apart-places
bounds-apart-places g c = omega (arith, c.loop-count.invariant.long, places_below (length c.args.apart.now) c.args.places.now c.requires.places c.loop-count.count 0 (omega arith))

pub offset_bounds-apart-places : goal.offset_bounds-apart-places
offset_bounds-apart-places g c =
    let lt = places_below (length c.args.apart.now) c.args.places.now c.requires.places c.loop-count.count 0 (omega arith) in
    omega (arith, offset_fits (get_or c.args.places.now c.loop-count.count 0) (length c.args.apart.now) _ lt c.well_formed.0.1)

pub loop-count-preserved : goal.loop-count-preserved
loop-count-preserved g c =
    let inv = c.loop-count.invariant in
    let places = c.args.places.now in
    let count = c.loop-count.count in
    let place : ℕ = get_or places count 0 in
    let lt : place < length c.loop-count.apart = omega (arith, inv.long, places_below (length c.args.apart.now) places c.requires.places count 0 (omega arith)) in
    let here : Some c.in-Some.member ≡ get_or c.loop-count.apart place None = sym c.in-Some.is ∙ c.take.ensures.value ∙ get_or_default c.loop-count.apart place c.index-apart-places.result None lt in
    record {
      long = length-set c.loop-count.apart (get_or places count 0) c.take.new.self ∙ inv.long;
      capacity = c.push_reserved.ensures.capacity ∙ inv.capacity;
      few = search rules;
      taken = λ xs d is.
          let same : IsPermutation (range_with_len 0 (length xs)) places = as_many xs c.args.apart.now places is c.requires.places in
          let next = untaken_here xs places count c.loop-count.apart same (omega arith) (inv.left xs is) d in
          let member : c.in-Some.member ≡ get_or xs (get_or places count 0) d = cc (here, next) in
          c.push_reserved.ensures.items ∙ taken_more xs places count c.loop-count.apart c.loop-count.taken.items d c.in-Some.member (omega arith) member (inv.taken xs d is);
      left = λ xs is. untaken_more xs places count c.loop-count.apart _ (ap (set c.loop-count.apart (get_or places count 0)) c.take.ensures.after) (inv.left xs is);
    }

pub returns : goal.returns
returns g c = λ xs d is. c.loop-count.invariant.taken xs d is ∙ ap (members_at xs d) (take_all c.loop-count.count c.args.places.now (omega arith))

pub returns-in_default : goal.returns-in_default
returns-in_default g c = λ xs d is.
    let places = c.args.places.now in
    let count = c.loop-count.count in
    let here : None ≡ get_or c.loop-count.apart (get_or places count 0) None = search rules in
    let same : IsPermutation (range_with_len 0 (length xs)) places = as_many xs c.args.apart.now places is c.requires.places in
    let next = untaken_here xs places count c.loop-count.apart same (omega arith) (c.loop-count.invariant.left xs is) d in
    absurd (cc (here ∙ next))
