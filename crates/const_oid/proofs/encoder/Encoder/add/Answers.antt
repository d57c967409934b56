-- Goals of `encoder::Encoder::add` that the checker doesn't prove by itself.
use Rattle.std.proofs.Common.{List, ℕ, Option, Some, Ok, Err, ap, sym, ◌∙◌, arith}
use Rattle.std.proofs.lemmas.Result.{err_from_is_err_and}
use Rattle.const_oid.specs.Bound.{Bound}
use Rattle.const_oid.specs.ArcLists.{add_arc, arcs_so_far}
use Rattle.const_oid.proofs.EncodingLaws.{add_first, add_second, misplaced_first, misplaced_second, none_now, one_now, first_small, many_pushed, many_added}
use Rattle.const_oid.proofs.encoder.Encoder.add.Goals as goal

pub invariant_of-self : goal.invariant_of-self
invariant_of-self g c =
    let e = c.self.inside in
    many_pushed g.row.MAX_SIZE e.first e.identifier c.in-Some.identifier c.push.new.self c.args.arc c.push.result c.in-Some.is c.self.invariant c.push.ensures

pub returns-in-Some : goal.returns-in-Some
returns-in-Some g c =
    let e = c.self.inside in
    many_added g.row.MAX_SIZE e.first e.identifier c.in-Some.identifier c.push.new.self c.args.self.now c.args.arc c.push.result c.in-Some.is c.self.invariant c.self.view_is c.push.ensures

pub returns-then-arc-gt2 : goal.returns-then-arc-gt2
returns-then-arc-gt2 g c =
    let none = none_now c.self.inside.first c.self.inside.identifier c.args.self.now c.in_default-first.is c.in_default.is c.self.view_is in
    ap (λ t. add_arc g.row.MAX_SIZE t c.args.arc) none ∙ misplaced_first g.row.MAX_SIZE c.args.arc c.if-arc-gt2.true

pub returns-in_default-first : goal.returns-in_default-first
returns-in_default-first g c =
    let none = none_now c.self.inside.first c.self.inside.identifier c.args.self.now c.in_default-first.is c.in_default.is c.self.view_is in
    ap (λ t. add_arc g.row.MAX_SIZE t c.args.arc) none ∙ add_first g.row.MAX_SIZE c.args.arc c.if-arc-gt2.false
    ∙ ap (λ (i : Option (List ℕ)). Ok (arcs_so_far (Some c.args.arc) i)) (sym c.in_default.is)

pub returns-then-arc-ge40 : goal.returns-then-arc-ge40
returns-then-arc-ge40 g c =
    let one = one_now c.self.inside.first c.self.inside.identifier c.args.self.now c.in-Some-first.first c.in-Some-first.is c.in_default.is c.self.view_is in
    ap (λ t. add_arc g.row.MAX_SIZE t c.args.arc) one ∙ misplaced_second g.row.MAX_SIZE c.in-Some-first.first c.args.arc c.if-arc-ge40.true

pub returns-in_err-root : goal.returns-in_err-root
returns-in_err-root g c =
    let e = c.self.inside in
    let first = c.in-Some-first.first in
    let one = one_now e.first e.identifier c.args.self.now first c.in-Some-first.is c.in_default.is c.self.view_is in
    let small = first_small e.first e.identifier first c.in-Some-first.is c.in_default.is c.self.invariant in
    let p = err_from_is_err_and c.from_residual.result c.from_residual.ensures.1 in
    rw (p.1 ∙ ap (λ x. Err x) p.2)
    (ap (λ t. add_arc g.row.MAX_SIZE t c.args.arc) one ∙ add_second Bound g.row.MAX_SIZE first c.args.arc small (omega arith) ∙ sym c.from_bytes_sized.ensures.read ∙ c.in_err-root.was)

pub returns : goal.returns
returns g c =
    let e = c.self.inside in
    let first = c.in-Some-first.first in
    let one = one_now e.first e.identifier c.args.self.now first c.in-Some-first.is c.in_default.is c.self.view_is in
    let small = first_small e.first e.identifier first c.in-Some-first.is c.in_default.is c.self.invariant in
    ap (λ t. add_arc g.row.MAX_SIZE t c.args.arc) one ∙ add_second Bound g.row.MAX_SIZE first c.args.arc small (omega arith) ∙ sym c.from_bytes_sized.ensures.read ∙ c.in_ok-root.was
