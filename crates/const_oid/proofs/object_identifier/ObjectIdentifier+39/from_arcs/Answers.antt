-- Goals of `object_identifier::ObjectIdentifier<39>::from_arcs` that the checker doesn't prove by
-- itself.
use Rattle.std.proofs.Common.{◌++◌, ◌∷◌, [], append-nil, ◌≡◌, Result, Ok, Err, IfErr, ap, sym, subst, ◌∙◌, arith}
use Rattle.std.proofs.lemmas.Result.{err_from_is_err_and, IfOk-from_err}
use Rattle.const_oid.specs.Bound.{Bound}
use Rattle.const_oid.specs.ArcLists.{gather, add_arc, whole_arcs}
use Rattle.const_oid.proofs.BoundLaws.{below_bound}
use Rattle.const_oid.proofs.IdentifierLaws.{all-push}
use Rattle.const_oid.proofs.EncodingLaws.{gather-err, gather-end}
use Rattle.const_oid.proofs.ArcFaultLaws.{add_arc-not_empty, arc_fault_found, answer_ok, answer_fault, gather-faultless, added-faultless, faultless_none, ends_at_next, ends_at_none}
use Rattle.const_oid.proofs.OverflowLaws.{arcs_not_overflow}
use Rattle.std.specs.Result.{IsOk}
use Rattle.std.proofs.iter.Next.{Yields-more}
use Rattle.const_oid.proofs.object_identifier.ObjectIdentifier+39.from_arcs.Goals as goal

not_ok : {T E : Type 0} (r : Result T E) (e : E) → r ≡ Err e → IsOk r → ⊥
not_ok (Ok x) e h ok = cc
not_ok (Err d) e h ok = cc

err_has : {T E : Type 0} (r : Result T E) (Q : E → Type 0) (e : E) → r ≡ Err e → Q e → IfErr r Q
err_has (Ok x) Q e h q = tt
err_has (Err d) Q e h q = let same : e ≡ d = cc in subst Q same q

pub loop-arc-init : goal.loop-arc-init
loop-arc-init g c =
    let starts = c.requires c.into_iter-rest.result c.into_iter-rest.ensures.into_iter_gives in
    (starts.0, starts.1, c.new-so_far.ensures, tt, faultless_none 39)

pub loop-arc-preserved : goal.loop-arc-preserved
loop-arc-preserved g c =
    let goes = c.in-Some.ensures.goes.on c.loop-arc.invariant.1 in
    let old = c.loop-arc.invariant in
    let more = added-faultless 39 c.loop-arc.yielded c.in-Some.arc c.add.new.self old.4 (ap (λ arcs. add_arc 39 arcs c.in-Some.arc) (sym old.2) ∙ c.in_ok-add.ensures) in
    (goes.0, goes.1, more.0, all-push Bound c.loop-arc.yielded c.in-Some.arc old.3 (below_bound c.in-Some.arc (omega arith)), more.1)

pub returns-in_err-add : goal.returns-in_err-add
returns-in_err-add g c =
    let p = err_from_is_err_and c.from_residual.result c.from_residual.ensures.1 in
    let it = c.into_iter-rest.result in
    let items = c.loop-arc.yielded ++ (c.in-Some.arc ∷ []) in
    let old = c.loop-arc.invariant in
    let taken = Yields-more g.I.IntoIter.Iterator.next_gives it c.loop-arc.yielded c.loop-arc.rest c.in-Some.arc c.next.new.self c.loop-arc.yielded_by c.in-Some.ensures.steps in
    let refused = ap (λ arcs. add_arc 39 arcs c.in-Some.arc) (sym old.2) ∙ c.in_err-add.ensures in
    let found = gather-faultless 39 c.loop-arc.yielded (c.in-Some.arc ∷ []) old.4 ∙ gather-err 39 c.loop-arc.yielded c.in-Some.arc [] _ refused in
    let answered = p.1 ∙ ap (λ e. Err e) p.2 in
    let read = answered ∙ sym found in
    record {
      gathered = (it, items, c.into_iter-rest.ensures.into_iter_gives, (c.next.new.self, taken, λ ok. absurd (not_ok c.from_residual.result p.0 p.1 ok)), read);
      ok = IfOk-from_err c.from_residual.result _ c.from_residual.ensures.0;
      fault = err_has c.from_residual.result _ _ answered (
        it,
        items,
        c.into_iter-rest.ensures.into_iter_gives,
        (c.next.new.self, taken, λ empty. absurd (add_arc-not_empty 39 c.loop-arc.yielded c.in-Some.arc (refused ∙ ap (λ e. Err e) empty))),
        arc_fault_found 39 items _ found,
        ends_at_next 39 c.loop-arc.yielded c.in-Some.arc old.4,
      );
      never_overflow = λ h. arcs_not_overflow 39 items (sym read ∙ h);
    }

pub returns : goal.returns
returns g c =
    let it = c.into_iter-rest.result in
    let items = c.loop-arc.yielded in
    let old = c.loop-arc.invariant in
    let found = ap (gather 39 []) (sym (append-nil items)) ∙ gather-faultless 39 items [] old.4 ∙ gather-end 39 items in
    let read = c.finish.ensures ∙ ap whole_arcs old.2 ∙ sym found in
    record {
      gathered = (it, items, c.into_iter-rest.ensures.into_iter_gives, (c.loop-arc.rest, c.loop-arc.yielded_by, λ ok. (c.next.new.self, c.in_default.ensures.steps)), read);
      ok = answer_ok Bound 39 _ items c.finish.result old.3 read
          (λ id fits. (it, c.into_iter-rest.ensures.into_iter_gives, (c.loop-arc.rest, c.loop-arc.yielded_by, λ _. (c.next.new.self, c.in_default.ensures.steps)), id, fits));
      fault = answer_fault 39 _ items c.finish.result read
          (λ e fault. (it, items, c.into_iter-rest.ensures.into_iter_gives, (c.loop-arc.rest, c.loop-arc.yielded_by, λ _. (c.next.new.self, c.in_default.ensures.steps)), fault, ends_at_none 39 items old.4));
      never_overflow = λ h. arcs_not_overflow 39 items (sym read ∙ h);
    }
