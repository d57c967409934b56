-- The loop invariant of `paths::is_anchored`: no trust anchor so far has the name, so the result
-- is that of the remaining ones.
use Rattle.std.proofs.Common.{◌≡◌, map, drop}
use Rattle.std.specs.List.{list_any}
use Rattle.cert_desk_checking.specs.Oid.Bound.{Bound}
use Rattle.cert_desk_checking.specs.CertCertificates.Views.{certificate_plain}
use Rattle.cert_desk_checking.specs.Anchors.{anchor_plain}
use Rattle.cert_desk_checking.specs.DeskRules.Judging.{is_named}
use Rattle.pki_signers.proofs.paths.is_anchored.Given as goal

abbrev pub invariant-loop-anchor : goal.invariant-loop-anchor
invariant-loop-anchor l = record {
  left : list_any (is_named Bound (certificate_plain l.certificate)) (map anchor_plain (drop l.anchor-index l.anchors))
      ≡ list_any (is_named Bound (certificate_plain l.certificate)) (map anchor_plain l.anchors);
}
