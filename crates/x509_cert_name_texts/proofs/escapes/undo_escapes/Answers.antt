-- Goals of `escapes::undo_escapes` that the checker doesn't prove by itself.
use Rattle.std.proofs.Common.{◌∙◌}
use Rattle.std.proofs.lemmas.Result.{err_from_is_err_and}
use Rattle.x509_cert_name_texts.proofs.EscapeSteps.{in_front-nil, next_plain, next_escape, no_escape, undone_stands, undone_fails}
use Rattle.x509_cert_name_texts.proofs.escapes.undo_escapes.Goals as goal

pub loop-octet-preserved : goal.loop-octet-preserved
loop-octet-preserved c = c.loop-octet.invariant ∙ next_plain c.loop-octet.octets.items _ _ _ _ c.in-Some.ensures.cases.0 c.if-octet-eq92.false c.in_ok-push-2.ensures.items

pub loop-octet-preserved-then-octet-eq92 : goal.loop-octet-preserved-then-octet-eq92
loop-octet-preserved-then-octet-eq92 c =
    c.loop-octet.invariant ∙ next_escape c.loop-octet.octets.items _ _ _ _ _ _ c.in-Some.ensures.cases.0 c.if-octet-eq92.true c.in_ok-octet.ensures.exact c.in_ok-push.ensures.items

pub returns-in_err-octet : goal.returns-in_err-octet
returns-in_err-octet c =
    let p = err_from_is_err_and c.from_residual.result c.from_residual.ensures.1 in
    rw (p.1, p.2) (λ _. undone_fails _ _ (c.loop-octet.invariant ∙ no_escape c.loop-octet.octets.items _ _ _ _ c.in-Some.ensures.cases.0 c.if-octet-eq92.true c.in_err-octet.ensures.exact))

pub returns : goal.returns
returns c = undone_stands _ _ (c.loop-octet.invariant ∙ in_front-nil c.loop-octet.octets.items c.loop-octet.left.now c.in_default.ensures.cases)
