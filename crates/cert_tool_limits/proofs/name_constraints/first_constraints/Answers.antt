-- The certificate at an index has nameConstraints or doesn't.
use Rattle.std.proofs.Common.{sym, ap, ◌∙◌}
use Rattle.x509_cert_anchors.specs.CertCertificates.Certificates.{extensions_of}
use Rattle.cert_tool_limits.specs.Limits.{constrains_names}
use Rattle.cert_tool_limits.proofs.EntryLaws.{found_here, not_here}
use Rattle.cert_tool_limits.proofs.name_constraints.first_constraints.Goals as goal

pub returns-then-constrains_names-clause-some : goal.returns-then-constrains_names-clause-some
returns-then-constrains_names-clause-some c =
    found_here c.args.bundle.now.certificates c.loop-place.place _ _ c.get.ensures.entry c.unwrap-entry.ensures (λ x. constrains_names (extensions_of x))
    (ap constrains_names (sym c.extensions_of.ensures) ∙ sym c.constrains_names.ensures ∙ c.if-constrains_names.true) c.loop-place.invariant.left

pub loop-place-preserved : goal.loop-place-preserved
loop-place-preserved c = record {
  left = not_here c.args.bundle.now.certificates c.loop-place.place _ _ c.get.ensures.entry c.unwrap-entry.ensures (λ x. constrains_names (extensions_of x))
      (ap constrains_names (sym c.extensions_of.ensures) ∙ sym c.constrains_names.ensures ∙ c.if-constrains_names.false) c.loop-place.invariant.left;
}
