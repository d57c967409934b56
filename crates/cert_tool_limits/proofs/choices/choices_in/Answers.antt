-- Each trust anchor is appended to those before it.
use Rattle.std.proofs.Common.{◌≡◌, map, [], ◌∷◌, ◌++◌, ap, ◌∙◌, arith, refl}
use Rattle.std.proofs.lemmas.List.{map-append}
use Rattle.x509_cert_anchors.specs.AnchorViews.{trust_anchor_plain}
use Rattle.cert_desk_checking.specs.AnchorFiles.{raw_choice}
use Rattle.cert_desk_checking.proofs.OneAnchorFile.{choices_told}
use Rattle.cert_desk_checking.proofs.FileReading.{stands-later, so_far-more}
use Rattle.cert_desk_rules.proofs.DeskBundle.LocationLaws.{pushed}
use Rattle.cert_tool_limits.specs.Choices.{given_itself}
use Rattle.cert_tool_limits.proofs.choices.choices_in.Goals as goal

pub loop-start-smaller : goal.loop-start-smaller
loop-start-smaller c =
    let later = stands-later raw_choice c.args.octets.now c.loop-start.start c.in_ok-choice.end (trust_anchor_plain c.in_ok-choice.choice) c.in_ok-choice.ensures.stands choices_told in
    omega (arith, later, c.loop-start-test.true)

pub loop-start-preserved : goal.loop-start-preserved
loop-start-preserved c =
    let before = c.loop-start.choices.items in
    let choice = c.in_ok-choice.choice in
    let items : map trust_anchor_plain c.push.new.self.items ≡ map trust_anchor_plain before ++ trust_anchor_plain choice ∷ [] =
    ap (map trust_anchor_plain) (pushed c.push.result _ _ _ c.push.ensures.items c.if-is_err.ensures.negation) ∙ map-append trust_anchor_plain before (choice ∷ []) in
    rw items
    (so_far-more raw_choice given_itself c.args.octets.now (map trust_anchor_plain before) c.loop-start.start c.loop-start.invariant c.in_ok-choice.end (trust_anchor_plain choice)
    (record { value = trust_anchor_plain choice; stands = c.in_ok-choice.ensures.stands; given = refl }))
