-- Goals of `set_of_vec::SetOfVec::from_der` that the checker doesn't prove by itself.
use Rattle.std.proofs.Common.{◌≡◌, true, List, Ok, ap}
use Rattle.std.proofs.lemmas.Result.{err_from_is_err_and}
use Rattle.der_core.specs.Shapes.{Value}
use Rattle.der_core.specs.Spelling.{is_element}
use Rattle.der_core.specs.Grammar.{plain_list}
use Rattle.der_core.proofs.Results.{ok_is}
use Rattle.der_core.specs.Both.{both_true}
use Rattle.der_types_sets.proofs.AscendingSteps.{members_valid, not_too_long, spells_loosely, only_whole}
use Rattle.der_types_sets.proofs.set_of_vec.SetOfVec.from_der.Goals as goal

pub returns-in_err-set : goal.returns-in_err-set
returns-in_err-set g c =
    let s = g.T.Shaped.shape in
    let read = c.in_ok-list.field-0.list.items in
    let p = err_from_is_err_and c.from_residual-in_err-set.result c.from_residual-in_err-set.ensures.1 in
    let none = λ (element : is_element s ≡ true). not_too_long s g.T.Shaped.written g.T.Shaped.plain g.met.T.AsRead.as_read read c.in_err-set.field-0.0 c.in_err-set.ensures.refused
    (members_valid s (plain_list g.T.Shaped.plain read) c.args.bytes.now (c.in_ok-list.ensures.spelled (both_true element g.met.T.Member.apart))) in
    rw (p.1, p.2) (record { spelled = λ element. tt; only = λ v element enough loose memory. absurd (none element); refused = λ element memory. absurd (none element) })

pub returns-clause-spelled : goal.returns-clause-spelled
returns-clause-spelled g c = λ element.
    spells_loosely g.T.Shaped.shape g.T.Shaped.written g.T.Shaped.plain g.met.T.AsRead.as_read c.args.bytes.now c.in_ok-list.field-0.list.items c.in_ok-set.set (c.in_ok-list.ensures.spelled (both_true element g.met.T.Member.apart)) c.in_ok-set.ensures.ok c.in_ok-set.ensures.ascend

pub returns-clause-only : goal.returns-clause-only
returns-clause-only g c = λ v element enough loose.
    let s = g.T.Shaped.shape in
    let read = c.in_ok-list.field-0.list.items in
    let same = ok_is {A = List (Value s)} loose.spelled (plain_list g.T.Shaped.plain read) (c.in_ok-list.ensures.only loose.spelled (both_true element g.met.T.Member.apart) enough loose.spells) in
    ap (λ (u : List (Value s)). Ok u) (only_whole s g.T.Shaped.written g.T.Shaped.plain g.met.T.AsRead.as_read c.args.bytes.now v read c.in_ok-set.set element g.met.T.Member.apart loose same c.in_ok-set.ensures.ok c.in_ok-set.ensures.ascend)
