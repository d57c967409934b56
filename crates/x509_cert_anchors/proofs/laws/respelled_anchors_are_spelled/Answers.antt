-- Goals of `laws::respelled_anchors_are_spelled` that the checker doesn't prove by itself.
use Rattle.std.proofs.Common.{ℕ, ◌≤◌, length, Bool, true, Option, Some, None, inl, inr, arith}
use Rattle.der_core.specs.TagTypes.Tag.TheVariants.{Sequence}
use Rattle.der_core.specs.Grammar.{plain_option}
use Rattle.der_core.specs.Leaves.{utf8}
use Rattle.der_core.specs.Shapes.{Shape, Body, optional, defaulted, field, done, only, sequence, explicit, octets_of, body_octets, IsValid, IsContent, IsBody}
use Rattle.der_core.specs.Tags.{context}
use Rattle.x509_cert_policies.proofs.CertParts.Respelled.{nested_shorter, nested_valid, behind_same, before_same}
use Rattle.x509_cert_certificates.proofs.Respelled.{tbs_shorter, tbs_valid, certificate_fields_shorter, certificate_valid}
use Rattle.x509_cert_certificates.specs.Certificates.{PlainCertificate, certificate_fields, certificate, tbs_certificate, tbs, tbs_by, certificate_by}
use Rattle.x509_cert_general_names.specs.GeneralNames.{inside}
use Rattle.x509_cert_policies.specs.CertParts.Grammar.{implicit_leaf, public_key_info, octet_string, extensions}
use Rattle.x509_cert_general_names.specs.CertNames.Names.{name}
use Rattle.x509_cert_anchors.specs.Anchors.{constraint_fields, cert_path_controls_fields, trust_anchor_info_fields, title_fields, trust_anchor_choice, anchor_version, first_anchor_version_octets, utf8_string, PlainControls, PlainInfo, PlainAnchor, cert_path_controls_by, trust_anchor_info_by, trust_anchor_by}
use Rattle.x509_cert_anchors.proofs.laws.respelled_anchors_are_spelled.Goals as goal

-- Trust anchors with re-encoded certificates have an encoding.
module _ (bound : ℕ) (limit : Option ℕ) (r : Bool) where
  -- The optional certificate in the constraints on chains.
  abbrev held : Shape
  held = optional (inside 0 (certificate_fields bound limit))

  abbrev held_by : Option PlainCertificate → Option PlainCertificate
  held_by c = plain_option (λ x. certificate_by r x) c

  held_shorter : (c : Option PlainCertificate) → length (octets_of held (held_by c)) ≤ length (octets_of held c)
  unfolding octets_of
  held_shorter None = omega arith
  held_shorter (Some c) = nested_shorter (context true 0) (certificate_fields bound limit) (certificate_by r c) c (certificate_fields_shorter bound limit r c)

  held_valid : (c : Option PlainCertificate) → IsValid held c → IsValid held (held_by c)
  unfolding IsValid IsContent IsBody
  held_valid None h = h
  held_valid (Some c) h =
      nested_valid (context true 0) (certificate_fields bound limit) (certificate_by r c) c
      (certificate_fields_shorter bound limit r c) (tbs_valid bound limit r (tbs c) h.0.0, h.0.1) h

  controls_shorter : (c : PlainControls) → length (body_octets (cert_path_controls_fields bound limit) (cert_path_controls_by r c)) ≤ length (body_octets (cert_path_controls_fields bound limit) c)
  controls_shorter c =
      behind_same (name bound) (field held (constraint_fields bound)) c.0 (held_by c.1.0, c.1.1) c.1
      (before_same held (constraint_fields bound) (held_by c.1.0) c.1.0 c.1.1 (held_shorter c.1.0))

  controls_body : (c : PlainControls) → IsBody (cert_path_controls_fields bound limit) c → IsBody (cert_path_controls_fields bound limit) (cert_path_controls_by r c)
  unfolding IsBody
  controls_body c h = (h.0, (held_valid c.1.0 h.1.0, h.1.1))

  -- The optional constraints on chains.
  abbrev path : Shape
  path = optional (sequence (cert_path_controls_fields bound limit))

  abbrev path_by : Option PlainControls → Option PlainControls
  path_by c = plain_option (λ x. cert_path_controls_by r x) c

  path_shorter : (c : Option PlainControls) → length (octets_of path (path_by c)) ≤ length (octets_of path c)
  unfolding octets_of
  path_shorter None = omega arith
  path_shorter (Some c) = nested_shorter Sequence (cert_path_controls_fields bound limit) (cert_path_controls_by r c) c (controls_shorter c)

  path_valid : (c : Option PlainControls) → IsValid path c → IsValid path (path_by c)
  unfolding IsValid IsContent
  path_valid None h = h
  path_valid (Some c) h =
      nested_valid Sequence (cert_path_controls_fields bound limit) (cert_path_controls_by r c) c (controls_shorter c) (controls_body c h.0) h

  -- The fields of a trust anchor from one field on.
  abbrev behind_path : Body
  behind_path = field (optional (explicit 1 (extensions bound))) (field (optional (implicit_leaf 2 utf8)) done)

  abbrev from_title : Body
  from_title = title_fields bound limit

  abbrev from_identifier : Body
  from_identifier = field octet_string from_title

  abbrev from_key : Body
  from_key = field (public_key_info bound) from_identifier

  info_shorter : (i : PlainInfo) → length (body_octets (trust_anchor_info_fields bound limit) (trust_anchor_info_by r i)) ≤ length (body_octets (trust_anchor_info_fields bound limit) i)
  info_shorter i =
      let new = trust_anchor_info_by r i in
      behind_same (defaulted anchor_version first_anchor_version_octets) from_key i.0 new.1 i.1
      (behind_same (public_key_info bound) from_identifier i.1.0 new.1.1 i.1.1
      (behind_same octet_string from_title i.1.1.0 new.1.1.1 i.1.1.1
      (behind_same (optional utf8_string) (field path behind_path) i.1.1.1.0 new.1.1.1.1 i.1.1.1.1
      (before_same path behind_path (path_by i.1.1.1.1.0) i.1.1.1.1.0 i.1.1.1.1.1 (path_shorter i.1.1.1.1.0)))))

  info_body : (i : PlainInfo) → IsBody (trust_anchor_info_fields bound limit) i → IsBody (trust_anchor_info_fields bound limit) (trust_anchor_info_by r i)
  unfolding IsBody
  info_body i h = (h.0, (h.1.0, (h.1.1.0, (h.1.1.1.0, (path_valid i.1.1.1.1.0 h.1.1.1.1.0, h.1.1.1.1.1)))))

  info_valid : (i : PlainInfo) → IsValid (sequence (trust_anchor_info_fields bound limit)) i → IsValid (sequence (trust_anchor_info_fields bound limit)) (trust_anchor_info_by r i)
  unfolding IsValid IsContent
  info_valid i h =
      nested_valid Sequence (trust_anchor_info_fields bound limit) (trust_anchor_info_by r i) i (info_shorter i) (info_body i h.0) h

  info_octets : (i : PlainInfo) → length (octets_of (sequence (trust_anchor_info_fields bound limit)) (trust_anchor_info_by r i)) ≤ length (octets_of (sequence (trust_anchor_info_fields bound limit)) i)
  info_octets i = nested_shorter Sequence (trust_anchor_info_fields bound limit) (trust_anchor_info_by r i) i (info_shorter i)

  anchor_valid : (a : PlainAnchor) → IsValid (trust_anchor_choice bound limit) a → IsValid (trust_anchor_choice bound limit) (trust_anchor_by r a)
  unfolding IsValid IsContent IsBody body_octets
  anchor_valid (inl c) h = certificate_valid bound limit r c h
  anchor_valid (inr (inl t)) h =
      nested_valid (context true 1) (only (tbs_certificate bound limit)) (tbs_by r t) t (tbs_shorter bound limit r t) (tbs_valid bound limit r t h.0) h
  anchor_valid (inr (inr i)) h =
      nested_valid (context true 2) (only (sequence (trust_anchor_info_fields bound limit))) (trust_anchor_info_by r i) i (info_octets i) (info_valid i h.0) h

pub returns : goal.returns
returns c = anchor_valid
