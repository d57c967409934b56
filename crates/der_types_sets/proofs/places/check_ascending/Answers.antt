-- Goals of `places::check_ascending` that the checker doesn't prove by itself.
use Rattle.std.proofs.Common.{◌<◌, length, arith, take, inl, inr, sym, subst}
use Rattle.std.proofs.lemmas.Result.{err_from_is_err_and}
use Rattle.std.proofs.lemmas.List.Sorted.{IsPermutation-refl}
use Rattle.der_types_sets.specs.Sets.{Ascends}
use Rattle.der_types_sets.proofs.SetSteps.{ascends-last, last_is, falls_at, too_long_part}
use Rattle.der_types_sets.proofs.places.check_ascending.Goals as goal

pub returns-in_err-check_last-clause-refused : goal.returns-in_err-check_last-clause-refused
returns-in_err-check_last-clause-refused g c =
    let s = g.T.Shaped.shape in
    let f = g.T.Shaped.written in
    let xs = c.args.members.now in
    let end = c.loop-end.end in
    let y = c.index-members-end.result in
    let lt : end < length xs = omega arith in
    let p = err_from_is_err_and c.from_residual.result c.from_residual.ensures.1 in
    rw (p.1, p.2) (elim c.in_err-check_last.ensures.refused [
      | inl h ↦ inl (record { kind = h.0; falls = falls_at s f xs end y lt c.index-members-end.is h.1 })
      | inr h ↦ inr (too_long_part s f xs xs end y c.in_err-check_last.field-0.0 (IsPermutation-refl xs) lt c.index-members-end.is h)
    ])

pub loop-end-preserved : goal.loop-end-preserved
loop-end-preserved g c =
    let s = g.T.Shaped.shape in
    let f = g.T.Shaped.written in
    let xs = c.args.members.now in
    let end = c.loop-end.end in
    let y = c.index-members-end.result in
    let lt : end < length xs = omega arith in
    subst (Ascends s f) (sym (last_is xs end y lt c.index-members-end.is)) (ascends-last s f (take end xs) y c.loop-end.invariant c.in_ok-check_last.ensures.ok)
