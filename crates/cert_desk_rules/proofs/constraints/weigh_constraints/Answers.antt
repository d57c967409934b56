-- Goals of `constraints::weigh_constraints` that the checker doesn't prove by itself.
use Rattle.std.proofs.Common.{sym, ap, refl, ◌∙◌, arith}
use Rattle.cert_desk_rules.specs.Findings.{weight_of}
use Rattle.cert_desk_rules.proofs.ConstraintLaws.{a_length, bad_length, no_length, no_sequence}
use Rattle.cert_desk_rules.proofs.constraints.weigh_constraints.Goals as goal

pub returns-in_default : goal.returns-in_default
returns-in_default c = λ purpose.
    sym (ap (weight_of purpose) (no_sequence c.args.octets.now c.in_default.ensures.none))

pub returns-then-is_empty : goal.returns-then-is_empty
returns-then-is_empty c = λ purpose.
    sym (ap (weight_of purpose) (no_length c.args.octets.now c.in-Some.fields.now _ c.split_ca-ca.result.0 c.in-Some.ensures.some c.split_ca-ca.ensures.split (sym c.is_empty.ensures ∙ c.if-is_empty.true)))

pub returns-in-Ok : goal.returns-in-Ok
returns-in-Ok c = λ purpose.
    sym (ap (weight_of purpose) (a_length c.args.octets.now c.in-Some.fields.now _ c.split_ca-ca.result.0 c.in-Some.ensures.some c.split_ca-ca.ensures.split c.in-Ok.most (λ i. omega (arith, c.type_inv.octets i)) c.in-Ok.ensures.exact))

pub returns-in-Err : goal.returns-in-Err
returns-in-Err c = λ purpose.
    sym (ap (weight_of purpose) (bad_length c.args.octets.now c.in-Some.fields.now _ c.split_ca-ca.result.0 c.in-Some.ensures.some c.split_ca-ca.ensures.split c.in-Err.field-0.kind c.split_ca-ca.ensures.spelled (sym c.is_empty.ensures ∙ c.if-is_empty.false) (c.in-Err.ensures.fault refl)))
