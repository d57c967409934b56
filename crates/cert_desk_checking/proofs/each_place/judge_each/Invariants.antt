-- The loop invariant of `each_place::judge_each`: the results for the certificates so far are
-- correct, the questions are those about them, and the issuer and the limit of the next one are
-- known.
use Rattle.std.proofs.Common.{◌≡◌}
use Rattle.x509_cert_anchors.specs.Oid.Bound.{Bound}
use Rattle.cert_desk_checking.specs.Anchors.{terms_of}
use Rattle.cert_desk_rules.specs.DeskBundle.Chains.{joined}
use Rattle.cert_desk_rules.specs.Findings.{IsRoom}
use Rattle.cert_desk_checking.specs.Places.{IsIssuer, Rises, asked_each}
use Rattle.cert_desk_checking.proofs.EachPlace.{SaysBefore}
use Rattle.cert_desk_checking.proofs.each_place.judge_each.Given as goal

abbrev pub invariant-loop-place : goal.invariant-loop-place
invariant-loop-place g l = record {
  kept : g.J.SignatureJudge.answers l.judge ≡ g.J.SignatureJudge.answers l.fn.judge;
  issuer : IsIssuer l.bundle.certificates l.anchors l.place l.issuer;
  room : IsRoom Bound l.bundle.certificates l.place l.room;
  said : SaysBefore (terms_of l.anchors l.moment l.purpose (g.J.SignatureJudge.answers l.fn.judge)) l.bundle.certificates (joined Bound l.bundle.certificates) l.judged.items l.place;
  counted : Rises (asked_each (terms_of l.anchors l.moment l.purpose (g.J.SignatureJudge.answers l.fn.judge)) l.bundle.certificates (joined Bound l.bundle.certificates) l.place)
      (g.J.SignatureJudge.questions l.fn.judge) 0 (g.J.SignatureJudge.questions l.judge) l.calls;
}
