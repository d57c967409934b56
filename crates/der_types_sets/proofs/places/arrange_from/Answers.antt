-- Goals of `places::arrange_from` that the checker doesn't prove by itself.
use Rattle.std.proofs.Common.{◌<◌, length, arith, take, refl}
use Rattle.std.proofs.lemmas.List.Sorted.{IsPermutation-refl, IsPermutation-trans}
use Rattle.der_types_sets.proofs.SetSteps.{moved_up, front_ascends, last_is}
use Rattle.der_types_sets.proofs.Arranged.{arranged-refl, arranged_more, behind_more, arranged_whole, stops_behind}
use Rattle.der_types_sets.proofs.places.arrange_from.Goals as goal

pub loop-end-init : goal.loop-end-init
loop-end-init g c = record {
  least = omega arith;
  same = IsPermutation-refl c.args.members.now;
  ascend = c.requires.ascend;
  arranged = arranged-refl g.T.Shaped.shape g.T.Shaped.written (take c.args.first c.args.members.now);
  behind = refl;
}

pub loop-end-preserved : goal.loop-end-preserved
loop-end-preserved g c =
    let s = g.T.Shaped.shape in
    let f = g.T.Shaped.written in
    let old = c.args.members.now in
    let xs = c.loop-end.members in
    let end = c.loop-end.end in
    let y = c.index-shared-end.result in
    let inv = c.loop-end.invariant in
    let lt : end < length xs = omega arith in
    let place = c.in-Ok.ensures.place in
    rw (c.last_to.ensures (take end xs) y (last_is xs end y lt c.index-shared-end.is)) (record {
      least = omega (arith, inv.least);
      same = IsPermutation-trans old xs _ inv.same (moved_up xs end c.in-Ok.place y lt c.index-shared-end.is);
      ascend = front_ascends s f xs end c.in-Ok.place y lt inv.ascend place;
      arranged = arranged_more s f old xs end c.in-Ok.place y inv.same lt c.index-shared-end.is inv.behind inv.ascend place inv.arranged;
      behind = behind_more s f old xs end c.in-Ok.place y lt place.within inv.behind;
    })

pub returns-in-Err-clause-refused : goal.returns-in-Err-clause-refused
returns-in-Err-clause-refused g c =
    let inv = c.loop-end.invariant in
    stops_behind g.T.Shaped.shape g.T.Shaped.written c.args.first c.loop-end.end c.args.members.now c.loop-end.members c.index-shared-end.result c.in-Err.error inv.least (omega arith) inv.same c.index-shared-end.is inv.behind inv.arranged c.in-Err.ensures.refused

pub returns-clause-arranged : goal.returns-clause-arranged
returns-clause-arranged g c =
    let inv = c.loop-end.invariant in
    arranged_whole g.T.Shaped.shape g.T.Shaped.written c.args.members.now c.loop-end.members c.loop-end.end inv.same (omega arith) inv.arranged
