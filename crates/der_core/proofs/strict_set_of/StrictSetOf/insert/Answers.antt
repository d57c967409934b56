-- Goals of `strict_set_of::StrictSetOf::insert` that the checker doesn't prove by itself.
use Rattle.std.proofs.Common.{inl, inr, ap, sym, ◌∙◌}
use Rattle.std.proofs.lemmas.List.Sorted.{IsPermutation-insert}
use Rattle.std.proofs.lemmas.Result.{err_from_is_err_and}
use Rattle.der_core_coding.specs.CoreHead.Grammar.{plain_list}
use Rattle.der_core.proofs.IterOrders.{still_rises}
use Rattle.der_core.proofs.strict_set_of.StrictSetOf.insert.Goals as goal

pub returns-in_err-stands_among-clause-refused : goal.returns-in_err-stands_among-clause-refused
returns-in_err-stands_among-clause-refused g c =
    let p = err_from_is_err_and c.from_residual.result c.from_residual.ensures.1 in
    let answered = rw c.as_slice.ensures.value at c.in_err-stands_among.ensures.answered in
    rw (p.1, p.2) (inr (inr (c.in_err-stands_among.ensures.refused, λ all valid. absurd (cc (answered all valid)))))

pub returns-then-branch-clause-refused : goal.returns-then-branch-clause-refused
returns-then-branch-clause-refused g c =
    let found = rw c.as_slice.ensures.value at c.in_ok-stands_among.ensures.found in
    inr (inl (c.from.ensures, λ all valid. sym (found all valid) ∙ c.if-branch.true))

pub returns-in_err-place-clause-refused : goal.returns-in_err-place-clause-refused
returns-in_err-place-clause-refused g c =
    let p = err_from_is_err_and c.from_residual-in_err-place.result c.from_residual-in_err-place.ensures.1 in
    let answered = rw c.as_slice-2.ensures.value at c.in_err-place.ensures.answered in
    rw (p.1, p.2) (inr (inr (c.in_err-place.ensures.refused, λ all valid. absurd (cc (answered all valid)))))

pub returns-clause-gained : goal.returns-clause-gained
returns-clause-gained g c = rw c.in_ok-insert.ensures.items (IsPermutation-insert _ _ _)

pub returns-clause-placed : goal.returns-clause-placed
returns-clause-placed g c = λ all valid.
    let place = rw c.as_slice-2.ensures.value at c.in_ok-place.ensures.place in
    ap (plain_list g.T.Shaped.written) c.in_ok-insert.ensures.items ∙ place all valid

pub returns-clause-once : goal.returns-clause-once
returns-clause-once g c = λ all valid.
    let found = rw c.as_slice.ensures.value at c.in_ok-stands_among.ensures.found in
    sym (found all valid) ∙ c.if-branch.false

pub returns-clause-rises : goal.returns-clause-rises
returns-clause-rises g c = λ all valid.
    let place = rw c.as_slice-2.ensures.value at c.in_ok-place.ensures.place in
    let found = rw c.as_slice.ensures.value at c.in_ok-stands_among.ensures.found in
    still_rises g.T.Shaped.shape (g.T.Shaped.written c.args.item) _ _ (ap (plain_list g.T.Shaped.written) c.in_ok-insert.ensures.items ∙ place all valid) (sym (found all valid) ∙ c.if-branch.false)
