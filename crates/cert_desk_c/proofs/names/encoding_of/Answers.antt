-- Goals of `names::encoding_of` that the checker doesn't prove by itself.
use Rattle.std.proofs.Common.{ℕ, List, Ok, Err, inr, refl, subst}
use Rattle.cert_tool_describe.specs.Oid.Bound.{Bound}
use Rattle.cert_tool_describe.specs.Der.Grammar.{plain_list}
use Rattle.cert_tool_describe.specs.CertNames.NameTexts.{ReadsEncoding, ReadsName}
use Rattle.cert_tool_describe.specs.CertNames.Pairs.{relative_plain}
use Rattle.cert_desk_c.proofs.Named.{lacks}
use Rattle.cert_desk_c.proofs.names.encoding_of.Goals as goal

pub returns-in-Err-clause-refused : goal.returns-in-Err-clause-refused
returns-in-Err-clause-refused c =
    let kind = c.in-Err.error.kind in
    lacks c.args.text.now c.lack.result kind (λ other. inr (kind, ReadsEncoding.refused kind (subst (λ (w : List ℕ). ReadsName Bound w (Err kind)) c.in-Ok.ensures.cases.0 (c.in-Err.ensures other)))) c.lack.ensures

pub returns-in-Ok-to_der-clause-read : goal.returns-in-Ok-to_der-clause-read
returns-in-Ok-to_der-clause-read c =
    let names = c.in-Ok-from_str.name.relative_names.items in
    let reads = subst (λ (w : List ℕ). ReadsName Bound w (Ok names)) c.in-Ok.ensures.cases.0 c.in-Ok-from_str.ensures in
    (c.in-Ok.ensures.cases.1, (plain_list relative_plain names, (names, reads, refl), c.in-Ok-to_der.ensures.exact))

pub returns-clause-refused : goal.returns-clause-refused
returns-clause-refused c =
    let kind = c.in-Err-to_der.error.kind in
    let names = c.in-Ok-from_str.name.relative_names.items in
    let reads = subst (λ (w : List ℕ). ReadsName Bound w (Ok names)) c.in-Ok.ensures.cases.0 c.in-Ok-from_str.ensures in
    lacks c.args.text.now c.lack-in-Err-to_der.result kind (λ other. inr (kind, ReadsEncoding.unwritten names kind reads (c.in-Err-to_der.ensures.exact other))) c.lack-in-Err-to_der.ensures
