-- The loop invariant of `checking::is_signed_by_anchor`: the signature wasn't accepted under any
-- trust anchor so far, so the result and the further questions are those of the remaining ones.
use Rattle.std.proofs.Common.{◌≡◌, ℕ, ◌+◌, map, drop}
use Rattle.std.specs.List.{list_any}
use Rattle.x509_cert_anchors.specs.Oid.Bound.{Bound}
use Rattle.x509_cert_anchors.specs.CertCertificates.Views.{certificate_plain}
use Rattle.cert_desk_checking.specs.Anchors.{anchor_plain}
use Rattle.cert_desk_checking.specs.Places.{signs, Rises}
use Rattle.cert_desk_rules.specs.Verdicts.{asked_until}
use Rattle.cert_desk_checking.proofs.checking.is_signed_by_anchor.Given as goal

abbrev pub invariant-loop-anchor : goal.invariant-loop-anchor
invariant-loop-anchor g l = record {
  kept : g.J.SignatureJudge.answers l.judge ≡ g.J.SignatureJudge.answers l.fn.judge;
  left : list_any (signs Bound (g.J.SignatureJudge.answers l.fn.judge) l.entry.signed.now (certificate_plain l.entry.certificate.now)) (map anchor_plain (drop l.anchor-index l.anchors))
      ≡ list_any (signs Bound (g.J.SignatureJudge.answers l.fn.judge) l.entry.signed.now (certificate_plain l.entry.certificate.now)) (map anchor_plain l.anchors);
  counted : (n : ℕ) × Rises n (g.J.SignatureJudge.questions l.fn.judge) l.fn.calls (g.J.SignatureJudge.questions l.judge) l.calls
      × (n + asked_until Bound (g.J.SignatureJudge.answers l.fn.judge) l.entry.signed.now (certificate_plain l.entry.certificate.now) (map anchor_plain (drop l.anchor-index l.anchors))
      ≡ asked_until Bound (g.J.SignatureJudge.answers l.fn.judge) l.entry.signed.now (certificate_plain l.entry.certificate.now) (map anchor_plain l.anchors));
}
