-- Goals of `names::text_of` that the checker doesn't prove by itself.
use Rattle.std.proofs.Common.{◌≡◌, IfOk, string_bytes, sym, subst}
use Rattle.cert_tool_describe.proofs.CertNames.OneName.{name_text_is}
use Rattle.cert_desk_c.proofs.names.text_of.Goals as goal

pub returns : goal.returns
returns c = subst (λ w. IfOk c.format.result (λ text. string_bytes text ≡ w)) (sym (name_text_is c.args.name.now.rdn_sequence.relative_names.items)) c.format.ensures.ok
