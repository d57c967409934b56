-- Goals of `set_of_vec::SetOfVec::gain` that the checker doesn't prove by itself.
use Rattle.std.proofs.Common.{ℕ, List, ◌<◌, ◌≡◌, ◌++◌, arith, length, subst}
use Rattle.std.proofs.lemmas.Result.{err_from_is_err_and, IfErr-weaker}
use Rattle.der_types_sets.specs.Sets.{StopsBehind}
use Rattle.der_types_sets.proofs.Arranged.{stops_in, stops_at_once}
use Rattle.der_types_sets.proofs.set_of_vec.SetOfVec.gain.Goals as goal

pub returns-in_err-append-clause-refused : goal.returns-in_err-append-clause-refused
returns-in_err-append-clause-refused g c =
    let old = c.self.inside.members in
    let p = err_from_is_err_and c.from_residual.result c.from_residual.ensures.1 in
    let some : 0 < length c.args.items.items = omega (arith, c.in_err-append.ensures.full, old.ok.0, old.ok.1, c.args.items.ok.0) in
    rw (p.1, c.in_err-append.ensures.items, ← c.self.view_is) (stops_at_once g.T.Shaped.shape g.T.Shaped.written old.items c.args.items.items p.0 some p.2)

pub returns-clause-refused : goal.returns-clause-refused
returns-clause-refused g c =
    let s = g.T.Shaped.shape in
    let f = g.T.Shaped.written in
    let old = c.self.inside.members in
    let items = c.args.items.items in
    let new = c.arrange_behind_first.new.members.items in
    let first : c.len-first.result ≡ length old.items = omega (arith, c.len-first.ensures, old.ok.0) in
    rw (← c.self.view_is)
    (IfErr-weaker c.arrange_behind_first.result _ _ (λ e h.
    stops_in s f old.items items new e
    (subst (λ (n : ℕ). (count : ℕ) × StopsBehind s f n (old.items ++ items) new count e) first
    (subst (λ (u : List g.row.T.Denot). (count : ℕ) × StopsBehind s f c.len-first.result u new count e) c.in_ok-append.ensures.items h))) c.arrange_behind_first.ensures.refused)
