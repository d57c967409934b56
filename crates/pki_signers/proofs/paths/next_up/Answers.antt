-- Goals of `paths::next_up`: the certificate at the index is the one that was compared.
use Rattle.std.proofs.Common.{map, sym, ◌∙◌}
use Rattle.cert_desk_checking.specs.Oid.Bound.{Bound}
use Rattle.cert_desk_checking.specs.Anchors.{anchor_plain}
use Rattle.cert_desk_checking.proofs.PlaceLaws.{entry_at}
use Rattle.pki_signers.proofs.PathLaws.{next_top, next_below}
use Rattle.pki_signers.proofs.paths.next_up.Goals as goal

pub is_top-requires : goal.is_top-requires
is_top-requires c = (entry_at _ _ _ _ _ c.get.ensures.entry c.unwrap-entry.ensures).valid

pub issuer_among-requires : goal.issuer_among-requires
issuer_among-requires c = (entry_at _ _ _ _ _ c.get.ensures.entry c.unwrap-entry.ensures).valid

pub returns-then-is_top-clause-next : goal.returns-then-is_top-clause-next
returns-then-is_top-clause-next c =
    let entry = entry_at _ _ _ _ _ c.get.ensures.entry c.unwrap-entry.ensures in
    sym (next_top Bound (map anchor_plain c.args.anchors.now) c.args.certificates.now.certificates c.args.place _ entry.certificate (sym c.is_top.ensures ∙ c.if-is_top.true))

pub returns-clause-next : goal.returns-clause-next
returns-clause-next c =
    let entry = entry_at _ _ _ _ _ c.get.ensures.entry c.unwrap-entry.ensures in
    c.issuer_among.ensures.issuer
    ∙ sym (next_below Bound (map anchor_plain c.args.anchors.now) c.args.certificates.now.certificates c.args.place _ entry.certificate (sym c.is_top.ensures ∙ c.if-is_top.false))
