-- Goals of `auditing::wd_audit` that the checker doesn't prove by itself.
use Rattle.cert_desk_issuing_c.proofs.auditing.wd_audit.Goals as goal

pub returns : goal.returns
returns c = (c.audit_of.result, c.code.ensures, c.audit_of.ensures.audit, c.audit_of.ensures.untouched)
