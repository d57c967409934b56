-- Goals of `judging::anchors_of` that the checker doesn't prove by itself.
use Rattle.std.proofs.Common.{inl, refl}
use Rattle.cert_desk_checking.proofs.OneAnchorFile.{not_whole}
use Rattle.cert_desk_answers.proofs.judging.anchors_of.Goals as goal

pub returns-in-Err-BadAnchors-clause-none : goal.returns-in-Err-BadAnchors-clause-none
returns-in-Err-BadAnchors-clause-none c =
    let wrong = rw c.in-Err-BadAnchors.field-0-is at c.in-Err-BadAnchors.ensures.refused in
    inl (refl, λ given is. not_whole c.args.octets.now given c.in-Err-BadAnchors.field-0-0 c.in-Err-BadAnchors.field-0-1 is wrong)
