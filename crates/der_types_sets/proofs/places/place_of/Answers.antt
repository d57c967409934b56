-- Goals of `places::place_of` that the checker doesn't prove by itself.
use Rattle.std.proofs.Common.{◌<◌, arith, ◌≤◌, Ok, ap, ◌∙◌}
use Rattle.der_types_sets.proofs.SetSteps.{before_here, told_above}
use Rattle.der_types_sets.proofs.places.place_of.Goals as goal
use Rattle.der_types_sets.proofs.places.place_of.Goals.{then-high-members, else-high-members}

pub loop-low-preserved-in-Greater : goal.loop-low-preserved-in-Greater
loop-low-preserved-in-Greater g c =
    let s = g.T.Shaped.shape in
    let f = g.T.Shaped.written in
    let inv = c.loop-low.invariant in
    let low : c.loop-low.low ≤ c.if-high-members.middle = elim c.if-high-members.branch [ then-high-members w ↦ omega arith | else-high-members w ↦ omega arith ] in
    let high : c.if-high-members.middle < c.loop-low.high = elim c.if-high-members.branch [ then-high-members w ↦ omega arith | else-high-members w ↦ omega arith ] in
    record {
      low = low;
      high = omega arith;
      behind = inv.behind;
      before = before_here s f c.args.members.now c.args.item.now c.index-members-middle.result c.if-high-members.middle c.index-members-middle.is
          (told_above s f c.index-members-middle.result c.args.item.now c.der_cmp.result (c.in_ok-der_cmp.was ∙ ap Ok c.in-Greater.is) (c.der_cmp.ensures.order g.met.T.Member.apart));
    }
