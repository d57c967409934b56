-- Goals of `weighing::weigh_purposes`: decoded or not, the bytes have the meaning of their
-- encoding.
use Rattle.std.proofs.Common.{◌≡◌, ℕ, List, ◌||◌, Result, Ok, Err, IfOk, sym, ap, refl, ◌∙◌, arith}
use Rattle.cert_desk_bundle.specs.Oid.Bound.{Bound}
use Rattle.cert_desk_bundle.specs.Oid.Comparing.{owned_eq}
use Rattle.cert_desk_bundle.specs.Der.Shapes.{sequence_of}
use Rattle.cert_desk_bundle.specs.CertParts.Grammar.{object_identifier}
use Rattle.cert_desk_rules.specs.declared.weight.Weight.{Weight}
use Rattle.cert_desk_rules.specs.declared.weight.Weight.TheVariants as weights
use Rattle.cert_desk_rules.specs.Findings.{weight_of}
use Rattle.cert_desk_rules.specs.Weighing.{Meaning, any_purpose, extended_key_usage_in, malformed, purposes, serves}
use Rattle.cert_desk_rules.proofs.ExtensionLaws.{any_of_list}
use Rattle.cert_desk_rules.proofs.Meanings.{meaning_read}
use Rattle.cert_desk_rules.proofs.weighing.weigh_purposes.Goals as goal

refused_as : {E P : Type 0} (p : List ℕ) (r : Result Weight E) (m : Meaning) → IfOk r (λ weight. (weight ≡ weights.Malformed) × P) → (P → m ≡ malformed)
    → IfOk r (λ weight. weight ≡ weight_of p m)
refused_as p (Ok weight) m h k = h.0 ∙ ap (weight_of p) (sym (k h.1))
refused_as p (Err fault) m h k = h

pub returns-in-Ok : goal.returns-in-Ok
returns-in-Ok c =
    let w = c.args.octets.now in
    let p = c.args.purpose.now in
    ap weights.Purposes
    (c.is_listed.ensures ∙ ap (λ (l : List (List ℕ)). serves p (purposes l)) c.as_slice.ensures.value
    ∙ any_of_list (λ (o : List ℕ). o) (λ (one : List ℕ). owned_eq one p || owned_eq one any_purpose) c.in-Ok.listed.items)
    ∙ sym (ap (weight_of p) (meaning_read (sequence_of (object_identifier Bound)) purposes w refl refl (λ i. omega (arith, c.type_inv.octets i)) _ c.in-Ok.ensures (extended_key_usage_in Bound w)))

pub returns-in-Err : goal.returns-in-Err
returns-in-Err c =
    let w = c.args.octets.now in
    refused_as c.args.purpose.now c.malformed.result _ c.malformed.ensures
    (λ apart. meaning_read (sequence_of (object_identifier Bound)) purposes w refl refl (λ i. omega (arith, c.type_inv.octets i)) _ (c.in-Err.ensures apart) (extended_key_usage_in Bound w))
