-- Goals of `question_lines::chain_lines` that the checker doesn't prove by itself.
use Rattle.std.proofs.Common.{◌≡◌, suc, ◌+◌, ◌++◌, map, arith, ap, sym, ◌∙◌}
use Rattle.std.proofs.lemmas.List.Concat.{flat_map-append}
use Rattle.x509_cert_anchors.specs.Oid.Bound.{Bound}
use Rattle.cert_desk_checking.specs.Anchors.{anchor_plain}
use Rattle.cert_desk_rules.specs.DeskBundle.Chains.{joined}
use Rattle.cert_desk_checking.specs.QuestionLines.{line_octets, lines_at, lines_below, lines_octets}
use Rattle.cert_desk_checking.proofs.question_lines.chain_lines.Goals as goal

pub loop-place-preserved : goal.loop-place-preserved
loop-place-preserved c =
    let anchors = map anchor_plain c.args.anchors.now in
    let cs = c.args.bundle.now.certificates in
    let place = c.loop-place.place in
    let next : suc place ≡ place + 1 = omega arith in
    c.in_ok-add_place.ensures
    ∙ ap (λ w. w ++ lines_octets (lines_at anchors cs (joined Bound cs) place)) c.loop-place.invariant
    ∙ sym (flat_map-append line_octets (lines_below anchors cs (joined Bound cs) place) (lines_at anchors cs (joined Bound cs) place))
    ∙ ap (λ n. lines_octets (lines_below anchors cs (joined Bound cs) n)) next
