-- Goals of `object_identifier::ObjectIdentifier::parent_counted` that the checker doesn't prove by
-- itself.
use Rattle.std.proofs.Common.{rules, Some, ◌≡◌, ◌-◌, [], ◌∷◌, ◌++◌, List, ℕ, length, ap, sym, subst, refl, ◌∙◌, length-append, arith}
use Rattle.const_oid.specs.Bound.{Bound}
use Rattle.const_oid.specs.Arcs.{arcs_of, SpellsIdentifier}
use Rattle.const_oid.specs.LastArcs.{KnowsLast}
use Rattle.const_oid.specs.Family.{parent_of}
use Rattle.const_oid.proofs.EncodingLaws.{identifier-many}
use Rattle.const_oid.proofs.FamilyLaws.{parent-few, parent-push}
use Rattle.const_oid.proofs.PackedLaws.{front-spelled}
use Rattle.const_oid.proofs.LastArcLaws.{none_before, front_of, placed_within}
use Rattle.const_oid.proofs.object_identifier.ObjectIdentifier.parent_counted.Goals as goal

pub returns-then-self-eq0 : goal.returns-then-self-eq0
returns-then-self-eq0 g c =
    let two = none_before Bound g.row.MAX_SIZE c.self.inside.arc_count c.self.inside.last_start c.self.inside.octets c.self.invariant.0 c.self.invariant.1 c.if-self-eq0.true in
    record {
      none = (λ _. sym (ap length c.self.view_is) ∙ two, λ _. refl);
      some = search rules;
      answer = sym (parent-few c.args.self.now (omega (arith, two, ap length c.self.view_is)));
      tests = omega arith;
    }

pub front-octets-requires : goal.front-octets-requires
front-octets-requires g c =
    let s = c.self.invariant.0 in
    (omega arith, omega (arith, c.self.invariant.1.placed, placed_within Bound (arcs_of c.self.inside.octets) s.identifier, ap length s.spelled))

pub last_start-last_start-requires : goal.last_start-last_start-requires
last_start-last_start-requires g c =
    (front_of Bound g.row.MAX_SIZE c.self.inside.arc_count c.self.inside.last_start c.self.inside.octets c.front-octets.result.now c.self.invariant.0 c.self.invariant.1 c.if-self-eq0.false c.front-octets.ensures.octets).whole

pub from_slice-requires : goal.from_slice-requires
from_slice-requires g c =
    let octets = c.front-octets.result.now in
    let f = front_of Bound g.row.MAX_SIZE c.self.inside.arc_count c.self.inside.last_start c.self.inside.octets octets c.self.invariant.0 c.self.invariant.1 c.if-self-eq0.false c.front-octets.ensures.octets in
    (omega arith, (f.spells.fits, front-spelled Bound g.row.MAX_SIZE octets f.spells))

pub overflow_sub-parent : goal.overflow_sub-parent
overflow_sub-parent g c = omega (arith, c.self.invariant.1.counted, identifier-many Bound (arcs_of c.self.inside.octets) c.self.invariant.0.identifier)

pub invariant_of-parent : goal.invariant_of-parent
invariant_of-parent g c =
    let octets = c.front-octets.result.now in
    let f = front_of Bound g.row.MAX_SIZE c.self.inside.arc_count c.self.inside.last_start c.self.inside.octets octets c.self.invariant.0 c.self.invariant.1 c.if-self-eq0.false c.front-octets.ensures.octets in
    let fewer : c.self.inside.arc_count - 1 ≡ length (arcs_of octets) = omega (arith, c.self.invariant.1.counted, ap length f.arcs, length-append (arcs_of octets) (f.last ∷ [])) in
    subst (λ (v : List ℕ). SpellsIdentifier Bound g.row.MAX_SIZE v × KnowsLast (arcs_of v) (c.self.inside.arc_count - 1) c.last_start-last_start.result.0) (sym c.from_slice.ensures)
    (f.spells, record { counted = fewer; placed = c.last_start-last_start.ensures.start })

pub returns : goal.returns
returns g c =
    let octets = c.front-octets.result.now in
    let f = front_of Bound g.row.MAX_SIZE c.self.inside.arc_count c.self.inside.last_start c.self.inside.octets octets c.self.invariant.0 c.self.invariant.1 c.if-self-eq0.false c.front-octets.ensures.octets in
    let arcs = sym c.self.view_is ∙ f.arcs in
    record {
      none = (λ bad. cc, λ two. absurd (omega (arith, two, f.many, ap length arcs, length-append (arcs_of octets) (f.last ∷ []))));
      some = (f.last, arcs ∙ ap (λ (v : List ℕ). arcs_of v ++ (f.last ∷ [])) (sym c.from_slice.ensures));
      answer = ap (λ (v : List ℕ). Some (arcs_of v)) c.from_slice.ensures ∙ sym (ap parent_of arcs ∙ parent-push (arcs_of octets) f.last f.many);
      tests = omega arith;
    }
