-- Goals of `octets::find` that the checker doesn't prove by itself.
use Rattle.std.proofs.Common.{length, Err, ap, sym, ◌∙◌, arith}
use Rattle.const_oid.specs.declared.error.Error.TheVariants as errors
use Rattle.const_oid.specs.Bound.{Bound}
use Rattle.const_oid.specs.IdentifierOctets.{read_identifier}
use Rattle.const_oid.specs.Outcome.{outcome}
use Rattle.const_oid.proofs.ArcsLaws.{outcome-root, outcome-root_invalid, outcome-empty}
use Rattle.const_oid.proofs.LastArcLaws.{found_whole}
use Rattle.const_oid.proofs.octets.find.Goals as goal

pub returns : goal.returns
returns c =
    let w = c.args.octets.now in
    let parts = c.in-Some.ensures.cases in
    let read = ap (λ w. outcome (read_identifier Bound (length w) w)) parts.0 ∙ outcome-root Bound c.in-Some.root.now c.in-Some.later.now c.if-root-ge120.false in
    found_whole Bound c.in-Some.root.now c.in-Some.later.now w c.find_arcs.result parts.0 (λ i. omega (arith, c.type_inv.octets i)) read c.find_arcs.ensures

pub returns-then-root-ge120 : goal.returns-then-root-ge120
returns-then-root-ge120 c =
    let parts = c.in-Some.ensures.cases in
    ap (λ w. outcome (read_identifier Bound (length w) w)) parts.0
    ∙ outcome-root_invalid Bound c.in-Some.root.now c.in-Some.later.now c.if-root-ge120.true
    ∙ ap (λ n. Err (errors.ArcInvalid n)) (sym c.from.ensures)

pub returns-in_default : goal.returns-in_default
returns-in_default c = outcome-empty Bound _ c.args.octets.now c.in_default.ensures.cases
