-- Goals of `arcs::Arcs::of` that the checker doesn't prove by itself.
use Rattle.std.proofs.Common.{length, ap, sym, ◌∙◌}
use Rattle.std.specs.Result.{is_ok}
use Rattle.const_oid.specs.Bound.{Bound}
use Rattle.const_oid.specs.IdentifierOctets.{read_identifier}
use Rattle.const_oid.specs.Arcs.{arcs_of}
use Rattle.const_oid.proofs.ArcsLaws.{later_whole, arcs_of-cons, none_spelled, none_whole}
use Rattle.const_oid.proofs.arcs.Arcs.of.Goals as goal

pub invariant_of-result : goal.invariant_of-result
invariant_of-result c = record { whole_arcs = none_whole Bound c.args.octets.now c.in_default.ensures.cases }

pub returns-in_default : goal.returns-in_default
returns-in_default c = none_spelled c.args.octets.now c.in_default.ensures.cases

pub invariant_of-result-2 : goal.invariant_of-result-2
invariant_of-result-2 c =
    let parts = c.in-Some.ensures.cases in
    record { whole_arcs = later_whole Bound (length c.args.octets.now) c.in-Some.root.now c.in-Some.later.now (ap (λ w. is_ok (read_identifier Bound (length c.args.octets.now) w)) (sym parts.0) ∙ c.requires) }

pub returns : goal.returns
returns c =
    let parts = c.in-Some.ensures.cases in
    sym (ap arcs_of parts.0 ∙ arcs_of-cons c.in-Some.root.now c.in-Some.later.now)
