-- The loop invariant of `checking::is_anchored`: no trust anchor so far has the name, so the result
-- is that of the remaining ones.
use Rattle.std.proofs.Common.{◌≡◌, map, drop}
use Rattle.std.specs.List.{list_any}
use Rattle.x509_cert_anchors.specs.Oid.Bound.{Bound}
use Rattle.x509_cert_anchors.specs.CertCertificates.Views.{certificate_plain}
use Rattle.cert_desk_checking.specs.Anchors.{anchor_plain}
use Rattle.cert_desk_rules.specs.Judging.{is_named}
use Rattle.cert_desk_checking.proofs.checking.is_anchored.Given as goal

abbrev pub invariant-loop-anchor : goal.invariant-loop-anchor
invariant-loop-anchor l = record {
  left : list_any (is_named Bound (certificate_plain l.certificate)) (map anchor_plain (drop l.anchor-index l.anchors))
      ≡ list_any (is_named Bound (certificate_plain l.certificate)) (map anchor_plain l.anchors);
}
