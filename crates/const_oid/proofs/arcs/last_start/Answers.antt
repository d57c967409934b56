-- Goals of `arcs::last_start` that the checker doesn't prove by itself.
use Rattle.std.proofs.Common.{length, refl, ap, ◌∙◌, arith}
use Rattle.const_oid.specs.Bound.{Bound}
use Rattle.const_oid.specs.Arcs.{arcs_of}
use Rattle.const_oid.proofs.BoundLaws.{few_octets}
use Rattle.const_oid.proofs.EncodingLaws.{some_octets}
use Rattle.const_oid.proofs.PackedLaws.{front-step, front-found}
use Rattle.const_oid.proofs.LastArcLaws.{before_last, few_tested}
use Rattle.const_oid.proofs.arcs.last_start.Goals as goal

pub overflow_sub-start : goal.overflow_sub-start
overflow_sub-start c = omega (arith, some_octets Bound (arcs_of c.args.octets.now) c.requires.identifier, ap length c.requires.spelled)

pub loop-start-init : goal.loop-start-init
loop-start-init c =
    let some = some_octets Bound (arcs_of c.args.octets.now) c.requires.identifier in
    (omega (arith, ap length c.requires.spelled), refl, omega (arith, ap length c.requires.spelled))

pub loop-start-preserved : goal.loop-start-preserved
loop-start-preserved c =
    let held = c.loop-start.invariant in
    (omega arith, front-step c.args.octets.now c.loop-start.start (omega arith) (omega arith) c.if-octets-start-lt128.false ∙ held.1, omega arith)

pub overflow_add-tests : goal.overflow_add-tests
overflow_add-tests c =
    let held = c.loop-start.invariant in
    omega (arith, few_octets, few_tested Bound c.loop-start.start (arcs_of c.args.octets.now) c.args.octets.now c.requires.identifier c.requires.spelled held.0 held.1)

pub returns-then-octets-start-lt128 : goal.returns-then-octets-start-lt128
returns-then-octets-start-lt128 c =
    let w = c.args.octets.now in
    let held = c.loop-start.invariant in record {
      start = front-found w _ c.loop-start.start (omega arith) (λ _. c.if-octets-start-lt128.true) held.1 ∙ before_last Bound (arcs_of w) w c.requires.identifier c.requires.spelled;
      tests = omega (arith, few_tested Bound c.loop-start.start (arcs_of w) w c.requires.identifier c.requires.spelled held.0 held.1);
    }

pub returns : goal.returns
returns c =
    let w = c.args.octets.now in
    let held = c.loop-start.invariant in record {
      start = front-found w _ c.loop-start.start (omega arith) (λ some. absurd (omega arith)) held.1 ∙ before_last Bound (arcs_of w) w c.requires.identifier c.requires.spelled;
      tests = omega (arith, few_tested Bound c.loop-start.start (arcs_of w) w c.requires.identifier c.requires.spelled held.0 held.1);
    }
