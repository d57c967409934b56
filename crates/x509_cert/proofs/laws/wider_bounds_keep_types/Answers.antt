-- Goals of `laws::wider_bounds_keep_types` that the checker doesn't prove by itself.
use Rattle.std.specs.Prelude.{refl}
use Rattle.x509_cert_anchors.specs.Der.Bounds.{IsValidUnder, identifiers_of}
use Rattle.x509_cert_anchors.specs.Der.Shapes.{IsValid, octets_of, sequence}
use Rattle.x509_cert_anchors.proofs.Der.BoundLaws.{spelled_exactly}
use Rattle.x509_cert_anchors.specs.Anchors.{trust_anchor_choice}
use Rattle.x509_cert_lists.specs.ListGrammar.{certificate_list_fields, cert_req}
use Rattle.x509_cert.proofs.laws.wider_bounds_keep_types.Goals as goal

-- CRLs, CSRs and trust anchors under two bounds on arcs: values and encodings don't depend on the
-- bound.
pub returns : goal.returns
unfolding IsValid IsValidUnder octets_of identifiers_of
returns c = record {
  lists = λ small large limit l w root le. spelled_exactly (sequence (certificate_list_fields 0 limit)) (λ bound. sequence (certificate_list_fields bound limit))
      (record { at = λ b v. v; judged = λ b v. (λ h. h, λ h. h); spelled = λ b v. refl; element = λ b. refl; apart = λ b. refl; enough = λ b. refl }) small large l w root le;
  requests = λ small large r w root le. spelled_exactly (cert_req 0) cert_req
      (record { at = λ b v. v; judged = λ b v. (λ h. h, λ h. h); spelled = λ b v. refl; element = λ b. refl; apart = λ b. refl; enough = λ b. refl }) small large r w root le;
  anchors = λ small large limit a w root le. spelled_exactly (trust_anchor_choice 0 limit) (λ bound. trust_anchor_choice bound limit)
      (record { at = λ b v. v; judged = λ b v. (λ h. h, λ h. h); spelled = λ b v. refl; element = λ b. refl; apart = λ b. refl; enough = λ b. refl }) small large a w root le;
}
