-- Goals of `anchor_files::anchors_in`: each decoded trust anchor adds one to the file so far.
use Rattle.std.proofs.Common.{◌≡◌, map, [], ◌∷◌, ◌++◌, ap, ◌∙◌, arith}
use Rattle.std.proofs.lemmas.List.{map-append}
use Rattle.cert_desk_checking.specs.Anchors.{anchor_plain, given_by}
use Rattle.cert_desk_checking.specs.AnchorFiles.{raw_choice}
use Rattle.cert_desk_checking.proofs.OneAnchorFile.{choices_told}
use Rattle.cert_desk_checking.proofs.FileReading.{stands-later, so_far-more}
use Rattle.cert_desk_rules.proofs.DeskBundle.LocationLaws.{pushed}
use Rattle.cert_desk_checking.proofs.anchor_files.anchors_in.Goals as goal

pub loop-start-smaller : goal.loop-start-smaller
loop-start-smaller c =
    let given = c.in_ok-anchor.ensures.given in
    let later = stands-later raw_choice c.args.octets.now c.loop-start.start c.in_ok-anchor.end given.value given.stands choices_told in
    omega (arith, later, c.loop-start-test.true)

pub loop-start-preserved : goal.loop-start-preserved
loop-start-preserved c =
    let before = c.loop-start.anchors.items in
    let anchor = c.in_ok-anchor.anchor in
    let items : map anchor_plain c.push.new.self.items ≡ map anchor_plain before ++ anchor_plain anchor ∷ [] =
    ap (map anchor_plain) (pushed c.push.result _ _ _ c.push.ensures.items c.if-is_err.ensures.negation) ∙ map-append anchor_plain before (anchor ∷ []) in
    rw items
    (so_far-more raw_choice given_by c.args.octets.now (map anchor_plain before) c.loop-start.start c.loop-start.invariant c.in_ok-anchor.end (anchor_plain anchor) c.in_ok-anchor.ensures.given)
