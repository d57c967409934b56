-- Goals of `splitting::name_text` that the checker doesn't prove by itself.
use Rattle.std.proofs.Common.{sym, ◌∙◌}
use Rattle.cert_tool_explain.proofs.CertNames.OneName.{name_text_is}
use Rattle.cert_tool.proofs.splitting.name_text.Goals as goal

pub returns : goal.returns
returns c = c.in_ok-text.ensures.ok ∙ sym (name_text_is c.args.name.now.rdn_sequence.relative_names.items)
