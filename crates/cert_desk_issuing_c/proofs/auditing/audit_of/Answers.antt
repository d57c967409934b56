-- Goals of `auditing::audit_of` that the checker doesn't prove by itself.
use Rattle.std.proofs.Common.{inl, inr, sym, ◌∙◌}
use Rattle.cert_desk_orders.specs.CertParts.Views.{algorithm_plain}
use Rattle.cert_desk_issuing_c.proofs.Audits.{audited, faulty_argument, unaudited}
use Rattle.cert_desk_issuing_c.proofs.auditing.audit_of.Goals as goal

pub returns-in_default-clause-audit : goal.returns-in_default-clause-audit
returns-in_default-clause-audit c = inr (λ arcs h. (let clash = sym (c.from_bytes.ensures.spelled arcs h.2 h.0 h.1) ∙ c.in_default.is in absurd cc))

pub returns-in-Err-clause-audit : goal.returns-in-Err-clause-audit
returns-in-Err-clause-audit c = faulty_argument c.args.orders.now c.args.algorithm.now c.args.moment c.args.purpose.now c.args.told.now.place c.args.told.now.number c.in-Err.status (c.in-Ok.purpose, c.in-Ok.ensures.ok) inl c.in-Err.ensures.refused

pub returns-in-Err-algorithm_of-clause-audit : goal.returns-in-Err-algorithm_of-clause-audit
returns-in-Err-algorithm_of-clause-audit c =
    faulty_argument c.args.orders.now c.args.algorithm.now c.args.moment c.args.purpose.now c.args.told.now.place c.args.told.now.number c.in-Err-algorithm_of.status (c.in-Ok.purpose, c.in-Ok.ensures.ok) (λ none. inr (inl none)) c.in-Err-algorithm_of.ensures.refused

pub returns-in-Err-bits_of-clause-audit : goal.returns-in-Err-bits_of-clause-audit
returns-in-Err-bits_of-clause-audit c =
    faulty_argument c.args.orders.now c.args.algorithm.now c.args.moment c.args.purpose.now c.args.told.now.place c.args.told.now.number c.in-Err-bits_of.status (c.in-Ok.purpose, c.in-Ok.ensures.ok) (λ long. inr (inr long)) c.in-Err-bits_of.ensures.refused

pub returns-in-Ok-verdict_of-clause-audit : goal.returns-in-Ok-verdict_of-clause-audit
returns-in-Ok-verdict_of-clause-audit c =
    audited c.args.orders.now c.args.algorithm.now c.args.moment c.args.purpose.now c.tell_verdict.new.told.place c.tell_verdict.new.told.number c.in-Ok-orders_of.said.items c.as_slice.result.now (algorithm_plain c.in-Ok-algorithm_of.by)
    c.in-Ok-orders_of.ensures.said c.in-Ok-algorithm_of.ensures.spelled c.as_slice.ensures.value c.in-Ok.purpose c.in-Ok.ensures.ok c.in-Ok-verdict_of.verdict c.tell_verdict.result c.tell_verdict.ensures.tells c.in-Ok-verdict_of.ensures.judged

pub returns-clause-audit : goal.returns-clause-audit
returns-clause-audit c =
    unaudited c.args.orders.now c.args.algorithm.now c.args.moment c.args.purpose.now c.tell_error.new.told.place c.tell_error.new.told.number c.in-Ok-orders_of.said.items c.as_slice.result.now (algorithm_plain c.in-Ok-algorithm_of.by)
    c.in-Ok-orders_of.ensures.said c.in-Ok-algorithm_of.ensures.spelled c.as_slice.ensures.value c.in-Ok.purpose c.in-Ok.ensures.ok c.in-Ok-bits_of.bits c.in-Err-verdict_of.error c.tell_error.result c.in-Ok-bits_of.ensures.bits c.in-Err-verdict_of.ensures.refused
    c.tell_error.ensures.tells c.tell_error.ensures.status
