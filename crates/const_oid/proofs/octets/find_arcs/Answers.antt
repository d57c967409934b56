-- Goals of `octets::find_arcs` that the checker doesn't prove by itself.
use Rattle.std.proofs.Common.{◌≡◌, ◌+◌, ◌<◌, ◌≤◌, ◌-◌, ◌++◌, ℕ, List, length, take, drop, ap, subst, sym, ◌∙◌, take-append-drop, length-take-le, length-drop, arith}
use Rattle.std.proofs.lemmas.List.{drop-drop, drop_all, take_all}
use Rattle.const_oid.specs.Bound.{Bound}
use Rattle.const_oid.specs.IdentifierOctets.{arc_octets, read_arcs}
use Rattle.const_oid.specs.Outcome.{outcome}
use Rattle.const_oid.proofs.ArcsLaws.{outcome-with_arc}
use Rattle.const_oid.proofs.EncodingLaws.{length-arc_octets, length-digits-pos}
use Rattle.const_oid.proofs.IdentifierLaws.{read_arcs-arc}
use Rattle.const_oid.proofs.BoundLaws.{Bound-is}
use Rattle.const_oid.proofs.LastArcLaws.{SoFar, so_far_arc, so_far_all, two_found}
use Rattle.const_oid.proofs.octets.find_arcs.Goals as goal

-- The next arc has at least one byte and is followed by the bytes that are left.
arc_first : (w : List ℕ) (begun len a : ℕ) → begun ≤ length w → len ≤ length (take (length w - begun) (drop begun w)) → take len (take (length w - begun) (drop begun w)) ≡ arc_octets a
    → (begun + len ≤ length w) × (drop begun w ≡ arc_octets a ++ drop (begun + len) w) × (len ≡ length (arc_octets a)) × (0 < len)
arc_first w begun len a within fits first =
    let rest = drop begun w in
    let whole : take (length w - begun) rest ≡ rest = take_all (length w - begun) rest (omega (arith, length-drop begun w)) in
    let most : len ≤ length rest = subst (λ t. len ≤ length t) whole fits in
    let front : take len rest ≡ arc_octets a = ap (take len) (sym whole) ∙ first in
    let size : len ≡ length (arc_octets a) = sym (length-take-le len rest most) ∙ ap length front in (
      omega (arith, most, length-drop begun w),
      sym (take-append-drop len rest) ∙ ap (λ t. t ++ drop len rest) front ∙ ap (λ t. arc_octets a ++ t) (drop-drop len begun w),
      size,
      omega (arith, size, length-arc_octets a, length-digits-pos a),
    )

pub returns-then-are_two_arcs : goal.returns-then-are_two_arcs
returns-then-are_two_arcs c =
    let two = c.are_two_arcs.ensures c.if-are_two_arcs.true in
    two_found Bound c.args.octets.now (omega (arith, Bound-is)) two.0 two.1 two.2

pub loop-begun-smaller : goal.loop-begun-smaller
loop-begun-smaller c =
    let w = c.args.octets.now in
    let found = c.in_ok-len.ensures in
    let arc = arc_first w c.loop-begun.begun c.in_ok-len.len found.1.0 c.loop-begun.invariant.0 found.0 found.1.2 in
    omega (arith, arc.3, c.loop-begun-test.true)

pub loop-begun-preserved : goal.loop-begun-preserved
loop-begun-preserved c =
    let w = c.args.octets.now in
    let begun = c.loop-begun.begun in
    let len = c.in_ok-len.len in
    let found = c.in_ok-len.ensures in
    let a = found.1.0 in
    let held = c.loop-begun.invariant in
    let rest = drop (begun + len) w in
    let arc = arc_first w begun len a held.0 found.0 found.1.2 in
    let read = held.2 ∙ ap (λ t. outcome (read_arcs Bound 0 t)) arc.1 ∙ ap outcome (read_arcs-arc Bound a rest found.1.1) ∙ outcome-with_arc a (read_arcs Bound 0 rest) in
    let place : begun + 1 + length (arc_octets a) ≡ begun + len + 1 = omega (arith, arc.2) in
    let more = so_far_arc w (drop begun w) rest c.loop-begun.arc_count c.loop-begun.last_start (begun + 1) a held.3 arc.1 in
    (arc.0, omega (arith, held.1, arc.3), read, subst (SoFar w rest (c.loop-begun.arc_count + 1) (begun + 1)) place more)

pub returns : goal.returns
returns c =
    let w = c.args.octets.now in
    let begun = c.loop-begun.begun in
    let held = c.loop-begun.invariant in
    let none = drop_all begun w c.loop-begun-test.false in
    let all = so_far_all w (drop begun w) c.loop-begun.arc_count c.loop-begun.last_start (begun + 1) held.3 none in
    (held.2 ∙ ap (λ t. outcome (read_arcs Bound 0 t)) none, all.0, all.1)
