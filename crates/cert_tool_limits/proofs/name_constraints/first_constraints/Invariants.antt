-- No certificate so far has nameConstraints, so the result is that of the remaining ones.
use Rattle.std.proofs.Common.{◌≡◌, drop}
use Rattle.std.specs.List.{list_any}
use Rattle.x509_cert_anchors.specs.CertCertificates.Certificates.{extensions_of}
use Rattle.cert_tool_limits.specs.Limits.{constrains_names}
use Rattle.cert_tool_limits.proofs.name_constraints.first_constraints.Given as goal

abbrev pub invariant-loop-place : goal.invariant-loop-place
invariant-loop-place l = record {
  left : list_any (λ c. constrains_names (extensions_of c)) (drop l.place l.bundle.certificates)
      ≡ list_any (λ c. constrains_names (extensions_of c)) l.bundle.certificates;
}
