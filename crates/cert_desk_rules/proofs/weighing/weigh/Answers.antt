-- Goals of `weighing::weigh`: an extension of each kind is checked by the decoder of that kind.
use Rattle.std.proofs.Common.{◌≡◌, ℕ, List, Result, Ok, Err, IfOk, refl, sym, subst, ap, ◌∙◌}
use Rattle.cert_desk_bundle.specs.Oid.Bound.{Bound}
use Rattle.cert_desk_bundle.specs.CertParts.Views.{extension_plain}
use Rattle.x509_cert_kinds.specs.declared.extension_kind.ExtensionKind.TheVariants as kinds
use Rattle.cert_desk_rules.specs.declared.weight.Weight.{Weight}
use Rattle.cert_desk_rules.specs.Findings.{weight_of}
use Rattle.cert_desk_rules.specs.Weighing.{Meaning}
use Rattle.cert_desk_rules.proofs.ExtensionLaws.{other_as, unweighed_as, weighed_as}
use Rattle.cert_desk_rules.proofs.weighing.weigh.Goals as goal

for_purpose : {E : Type 0} (p : List ℕ) (r : Result Weight E) (m n : Meaning) → n ≡ m → IfOk r (λ weight. (purpose : List ℕ) → weight ≡ weight_of purpose m) → IfOk r (λ weight. weight ≡ weight_of p n)
for_purpose p (Ok weight) m n e h = h p ∙ ap (weight_of p) (sym e)
for_purpose p (Err error) m n e h = h

pub returns-in_default-clause-weight : goal.returns-in_default-clause-weight
returns-in_default-clause-weight c =
    sym (ap (weight_of c.args.purpose.now) (unweighed_as Bound (extension_plain c.args.extension.now) c.in_default.ensures.unknown))

pub returns-in-KeyUsage-clause-weight : goal.returns-in-KeyUsage-clause-weight
returns-in-KeyUsage-clause-weight c =
    let says = weighed_as Bound kinds.KeyUsage _ (extension_plain c.args.extension.now) _ c.in-Some.ensures.known c.in-KeyUsage.is c.as_bytes-octets.ensures in
    c.weigh_key_usage.ensures c.args.purpose.now ∙ sym (ap (weight_of c.args.purpose.now) says)

pub returns-in-SubjectAltName-clause-weight : goal.returns-in-SubjectAltName-clause-weight
returns-in-SubjectAltName-clause-weight c =
    for_purpose c.args.purpose.now c.weigh_names.result _ _
    (weighed_as Bound kinds.SubjectAltName _ (extension_plain c.args.extension.now) _ c.in-Some.ensures.known c.in-SubjectAltName.is c.as_bytes-octets.ensures)
    c.weigh_names.ensures

pub returns-in-BasicConstraints-clause-weight : goal.returns-in-BasicConstraints-clause-weight
returns-in-BasicConstraints-clause-weight c =
    let says = weighed_as Bound kinds.BasicConstraints _ (extension_plain c.args.extension.now) _ c.in-Some.ensures.known c.in-BasicConstraints.is c.as_bytes-octets.ensures in
    c.weigh_constraints.ensures c.args.purpose.now ∙ sym (ap (weight_of c.args.purpose.now) says)

pub returns-in-ExtKeyUsage-clause-weight : goal.returns-in-ExtKeyUsage-clause-weight
returns-in-ExtKeyUsage-clause-weight c =
    let says = weighed_as Bound kinds.ExtKeyUsage _ (extension_plain c.args.extension.now) _ c.in-Some.ensures.known c.in-ExtKeyUsage.is c.as_bytes-octets.ensures in
    subst (λ (m : Meaning). IfOk c.weigh_purposes.result (λ weight. weight ≡ weight_of c.args.purpose.now m)) (sym says) c.weigh_purposes.ensures

pub returns-in_default-kind : goal.returns-in_default-kind
returns-in_default-kind c =
    let e = extension_plain c.args.extension.now in
    let not = c.in_default-kind in
    let says = weighed_as Bound _ _ e _ c.in-Some.ensures.known refl c.as_bytes-octets.ensures ∙ other_as Bound _ _ not.not-KeyUsage not.not-SubjectAltName not.not-BasicConstraints not.not-ExtKeyUsage in
    record { weight = sym (ap (weight_of c.args.purpose.now) says); memory = tt }
