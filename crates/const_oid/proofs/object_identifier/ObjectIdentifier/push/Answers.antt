-- Goals of `object_identifier::ObjectIdentifier::push` that the checker doesn't prove by itself.
use Rattle.std.proofs.Common.{◌++◌, ◌∷◌, [], Ok, Err, cond, length, ap, sym, subst, ◌∙◌, arith}
use Rattle.std.proofs.lemmas.Result.{err_from_is_err_and}
use Rattle.const_oid.specs.Bound.{Bound}
use Rattle.const_oid.specs.Arcs.{arcs_of, SpellsIdentifier}
use Rattle.const_oid.specs.declared.error.Error.TheVariants as errors
use Rattle.const_oid.specs.Family.{child_of}
use Rattle.const_oid.proofs.BoundLaws.{below_bound}
use Rattle.const_oid.proofs.EncodingLaws.{spells_push, pushed_ok, pushed_long}
use Rattle.const_oid.proofs.LastArcLaws.{few_arcs, knows_push}
use Rattle.const_oid.proofs.object_identifier.ObjectIdentifier.push.Goals as goal

pub returns-in_err-last_start : goal.returns-in_err-last_start
returns-in_err-last_start g c =
    let w = c.self.inside.octets in
    let p = err_from_is_err_and c.from_residual.result c.from_residual.ensures.1 in
    let long = pushed_long Bound g.row.MAX_SIZE w c.args.arc c.self.invariant.0 c.in_err-last_start.ensures.1 in
    rw (p.1 ∙ ap (λ e. Err e) (p.2 ∙ c.in_err-last_start.ensures.0)) (
      ap (λ arcs. child_of g.row.MAX_SIZE arcs c.args.arc) (sym c.self.view_is) ∙ ap (λ b. cond b (Err errors.Length) (Ok (arcs_of w ++ c.args.arc ∷ []))) long,
      ap arcs_of c.in_err-last_start.ensures.2 ∙ c.self.view_is,
    )

pub overflow_add-self : goal.overflow_add-self
overflow_add-self g c = omega (arith, few_arcs Bound (arcs_of c.self.inside.octets) c.self.invariant.0.identifier, ap length c.self.invariant.0.spelled)

pub invariant_of-self-2 : goal.invariant_of-self-2
invariant_of-self-2 g c =
    let w = c.self.inside.octets in
    let more = spells_push Bound g.row.MAX_SIZE w c.args.arc c.self.invariant.0 (below_bound c.args.arc (omega arith)) c.in_ok-last_start.ensures.2 in
    let new = c.in_ok-last_start.ensures.1 in (
      subst (SpellsIdentifier Bound g.row.MAX_SIZE) (sym new) more.0,
      knows_push Bound g.row.MAX_SIZE c.self.inside.arc_count c.in_ok-last_start.last_start c.args.arc w c.push_arc.new.self c.self.invariant.0 c.self.invariant.1.counted (ap arcs_of new ∙ more.1) c.in_ok-last_start.ensures.0,
    )

pub returns : goal.returns
returns g c =
    let w = c.self.inside.octets in
    let more = spells_push Bound g.row.MAX_SIZE w c.args.arc c.self.invariant.0 (below_bound c.args.arc (omega arith)) c.in_ok-last_start.ensures.2 in
    let fits = pushed_ok Bound g.row.MAX_SIZE w c.args.arc c.self.invariant.0 c.in_ok-last_start.ensures.2 in
    ap (λ arcs. child_of g.row.MAX_SIZE arcs c.args.arc) (sym c.self.view_is) ∙ ap (λ b. cond b (Err errors.Length) (Ok (arcs_of w ++ c.args.arc ∷ []))) fits
    ∙ sym (ap (λ t. Ok (arcs_of t)) c.in_ok-last_start.ensures.1 ∙ ap (λ t. Ok t) more.1)
