-- Goals of `printing::is_bare` that the checker doesn't prove by itself.
use Rattle.x509_cert_name_texts.proofs.TextSteps.{bare-step, bare-end}
use Rattle.x509_cert_name_texts.proofs.printing.is_bare.Goals as goal

pub loop-octet-preserved : goal.loop-octet-preserved
loop-octet-preserved c = λ e. c.loop-octet.invariant (bare-step c.loop-octet.first c.is_empty.result c.in-Some.octet.now _ _ c.in-Some.ensures.cases.0 c.is_empty.ensures (c.stands_bare.ensures c.if-not-stands_bare.false) e)

pub returns : goal.returns
returns c = λ _. c.loop-octet.invariant (bare-end c.loop-octet.first _ c.in_default.ensures.cases)
