-- The loop invariant of `checking::check_chain`: the certificates so far keep all rules, and the
-- questions are those about them.
use Rattle.std.proofs.Common.{◌≡◌, true}
use Rattle.x509_cert_anchors.specs.Oid.Bound.{Bound}
use Rattle.cert_desk_checking.specs.Anchors.{terms_of}
use Rattle.cert_desk_rules.specs.DeskBundle.Chains.{joined}
use Rattle.cert_desk_rules.specs.Findings.{IsRoom}
use Rattle.cert_desk_checking.specs.Places.{IsIssuer, Rises}
use Rattle.cert_desk_rules.specs.Verdicts.{all_kept_below, asked_below}
use Rattle.cert_desk_checking.proofs.checking.check_chain.Given as goal

abbrev pub invariant-loop-place : goal.invariant-loop-place
invariant-loop-place g l = record {
  kept : g.J.SignatureJudge.answers l.judge ≡ g.J.SignatureJudge.answers l.fn.judge;
  issuer : IsIssuer l.bundle.certificates l.anchors l.place l.issuer;
  room : IsRoom Bound l.bundle.certificates l.place l.room;
  judged : all_kept_below (terms_of l.anchors l.moment l.purpose (g.J.SignatureJudge.answers l.fn.judge)) l.bundle.certificates (joined Bound l.bundle.certificates) l.place ≡ true;
  counted : Rises (asked_below (terms_of l.anchors l.moment l.purpose (g.J.SignatureJudge.answers l.fn.judge)) l.bundle.certificates (joined Bound l.bundle.certificates) l.place)
      (g.J.SignatureJudge.questions l.fn.judge) 0 (g.J.SignatureJudge.questions l.judge) l.calls;
}
