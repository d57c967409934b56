-- Goals of `question_lines::add_place` that the checker doesn't prove by itself.
use Rattle.std.proofs.Common.{◌≡◌, ◌++◌, string_bytes, map, subst, ap, sym, ◌∙◌}
use Rattle.std.specs.Prelude.{OnOk}
use Rattle.cert_desk_checking.specs.Anchors.{anchor_plain}
use Rattle.x509_cert_anchors.specs.Oid.Bound.{Bound}
use Rattle.cert_desk_rules.specs.DeskBundle.Chains.{joined}
use Rattle.cert_desk_checking.proofs.PlaceLaws.{entry_at}
use Rattle.cert_desk_checking.specs.QuestionLines.{lines_at, lines_octets}
use Rattle.cert_desk_checking.proofs.QuestionLaws.{lines_at-first}
use Rattle.cert_desk_checking.proofs.question_lines.add_place.Goals as goal

pub returns-then-place-eq0 : goal.returns-then-place-eq0
returns-then-place-eq0 c =
    let cs = c.args.bundle.now.certificates in
    let anchors = map anchor_plain c.args.anchors.now in
    let entry = entry_at _ _ _ _ _ c.get.ensures.entry c.unwrap.ensures in
    subst (λ w. OnOk c.add_first.result (string_bytes c.add_first.new.text ≡ string_bytes c.args.text.now ++ w))
    (lines_at-first cs c.unwrap.result entry anchors ∙ ap (λ n. lines_octets (lines_at anchors cs (joined Bound cs) n)) (sym c.if-place-eq0.true))
    c.add_first.ensures

pub returns : goal.returns
returns c = c.add_later.ensures (map anchor_plain c.args.anchors.now)
