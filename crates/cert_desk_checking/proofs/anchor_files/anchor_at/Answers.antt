-- Goals of `anchor_files::anchor_at`: the trust anchor at the offset is usable, or none there is.
use Rattle.x509_cert_anchors.specs.AnchorViews.{trust_anchor_plain}
use Rattle.cert_desk_checking.proofs.AnchorLaws.{given_there}
use Rattle.cert_desk_checking.proofs.anchor_files.anchor_at.Goals as goal

pub returns : goal.returns
returns c =
    let e = c.given.ensures in
    let both = given_there c.args.octets.now c.args.start c.in_ok-choice.end (trust_anchor_plain c.in_ok-choice.choice) c.in_ok-choice.ensures.stands c.given.result e.given e.end e.ungiven in
    record { given = both.0; none = both.1 }
