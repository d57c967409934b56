-- The loop invariant of `weighing::findings_of`: the findings so far, with the remaining extensions
-- added, are those about all of them.
use Rattle.std.proofs.Common.{◌≡◌, drop}
use Rattle.std.specs.List.{fold}
use Rattle.cert_desk_bundle.specs.Oid.Bound.{Bound}
use Rattle.cert_desk_bundle.specs.CertParts.Views.{extensions_plain}
use Rattle.cert_desk_rules.specs.Findings.{add_extension, found}
use Rattle.cert_desk_rules.proofs.weighing.findings_of.Given as goal

abbrev pub invariant-loop-extension : goal.invariant-loop-extension
invariant-loop-extension l = record {
  left : fold (add_extension Bound l.purpose) l.findings (extensions_plain (drop l.extension-index l.extensions))
      ≡ found Bound l.purpose (extensions_plain l.extensions);
}
