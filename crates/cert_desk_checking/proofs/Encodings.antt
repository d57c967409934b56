-- Laws about the positions of certificates in an input, and about the parts of a certificate.
use Rattle.std.proofs.Common.{◌≡◌, ℕ, zero, suc, ◌+◌, List, [], ◌∷◌, ◌++◌, length, take, drop, Some, slice_get, refl, sym, ap, ◌∙◌, subst}
use Rattle.std.specs.List.{AllByRecursion}
use Rattle.std.proofs.lemmas.List.{drop-drop, drop_at, take_at, append_assoc}
use Rattle.x509_cert_anchors.specs.Der.TagTypes.Tag.TheVariants as tags
use Rattle.x509_cert_anchors.specs.Der.Tags.{tag_octets}
use Rattle.x509_cert_anchors.specs.Der.Heads.{tlv, head_octets, length_octets}
use Rattle.x509_cert_anchors.specs.Der.Shapes.{octets_of, contents, body_octets, IsValid, IsContent, IsBody}
use Rattle.x509_cert_anchors.specs.CertCertificates.Certificates.{PlainCertificate, raw_certificate}
use Rattle.x509_cert_anchors.specs.CertCertificates.Certificates.{raw_certificate_fields, certificate_octets}
use Rattle.x509_cert_anchors.specs.CertCertificates.Certificates.{raw_tbs_certificate, tbs, inner_algorithm}
use Rattle.x509_cert_anchors.specs.CertCertificates.Certificates.{outer_algorithm, issuer, signed_start}
use Rattle.x509_cert_anchors.specs.CertCertificates.Certificates.{signed_length}
use Rattle.x509_cert_anchors.specs.CertParts.Grammar.{algorithm_identifier}
use Rattle.x509_cert_anchors.specs.CertNames.Names.{name}
use Rattle.cert_desk_rules.specs.DeskBundle.Chains.{Stands, joined, offset_at}
use Rattle.cert_desk_rules.specs.Judging.{signed_part}

-- A certificate begins with the tag of a SEQUENCE.
pub certificate_octets-first : (bound : ℕ) (c : PlainCertificate) → (w : List ℕ) × (certificate_octets bound c ≡ 0x30 ∷ w)
unfolding octets_of tlv head_octets tag_octets
certificate_octets-first bound c = (length_octets (length (body_octets (raw_certificate_fields bound) c)) ++ body_octets (raw_certificate_fields bound) c, refl)

abbrev outer_head : ℕ → PlainCertificate → List ℕ
outer_head bound c = head_octets tags.Sequence (length (body_octets (raw_certificate_fields bound) c))

-- A certificate is a header, a TBSCertificate, and the bytes after it.
certificate_octets-parts : (bound : ℕ) (c : PlainCertificate)
    → (w : List ℕ) × (certificate_octets bound c ≡ outer_head bound c ++ (octets_of (raw_tbs_certificate bound) (tbs c) ++ w))
unfolding octets_of contents body_octets tlv
certificate_octets-parts bound c = (_, refl)

-- A chain is the certificates before an index, the one at the index, and those after it.
pub joined-at : (bound : ℕ) (cs : List PlainCertificate) (place : ℕ) (c : PlainCertificate) → slice_get cs place ≡ Some c
    → joined bound cs ≡ joined bound (take place cs) ++ (certificate_octets bound c ++ joined bound (drop (suc place) cs))
joined-at bound [] place c e = absurd cc
joined-at bound (x ∷ xs) zero c e = let is : x ≡ c = cc in ap (λ y. certificate_octets bound y ++ joined bound xs) is
joined-at bound (x ∷ xs) (suc n) c e =
    ap (λ w. certificate_octets bound x ++ w) (joined-at bound xs n c e)
    ∙ sym (append_assoc (certificate_octets bound x) (joined bound (take n xs)) (certificate_octets bound c ++ joined bound (drop (suc n) xs)))

slice_inside : (front head part rest back : List ℕ)
    → take (length part) (drop (length front + length head) (front ++ ((head ++ (part ++ rest)) ++ back))) ≡ part
slice_inside front head part rest back =
    ap (take (length part))
    (sym (drop-drop (length head) (length front) (front ++ ((head ++ (part ++ rest)) ++ back)))
    ∙ ap (drop (length head)) (drop_at front ((head ++ (part ++ rest)) ++ back) (length front) refl ∙ append_assoc head (part ++ rest) back)
    ∙ drop_at head ((part ++ rest) ++ back) (length head) refl
    ∙ append_assoc part rest back)
    ∙ take_at part (rest ++ back) (length part) refl

-- The signed bytes in the input are the encoding of the TBSCertificate.
pub signed_part-is : (bound : ℕ) (cs : List PlainCertificate) (place : ℕ) (c : PlainCertificate) → slice_get cs place ≡ Some c
    → signed_part bound cs (joined bound cs) place c ≡ octets_of (raw_tbs_certificate bound) (tbs c)
unfolding signed_start signed_length
signed_part-is bound cs place c e =
    let parts = certificate_octets-parts bound c in
    ap (λ s. take (length (octets_of (raw_tbs_certificate bound) (tbs c))) (drop (offset_at bound cs place + length (outer_head bound c)) s))
    (joined-at bound cs place c e ∙ ap (λ w. joined bound (take place cs) ++ (w ++ joined bound (drop (suc place) cs))) parts.1)
    ∙ slice_inside (joined bound (take place cs)) (outer_head bound c) (octets_of (raw_tbs_certificate bound) (tbs c)) parts.0 (joined bound (drop (suc place) cs))

pub Stands-at : (bound limit : ℕ) (cs : List PlainCertificate) (place : ℕ) (c : PlainCertificate) → AllByRecursion (Stands bound limit) cs → slice_get cs place ≡ Some c → Stands bound limit c
Stands-at bound limit [] place c h e = absurd cc
Stands-at bound limit (x ∷ xs) zero c h e = let is : x ≡ c = cc in subst (Stands bound limit) is h.0
Stands-at bound limit (x ∷ xs) (suc n) c h e = Stands-at bound limit xs n c h.1 e

-- Both algorithms have encodings.
pub valid_algorithms : (bound : ℕ) (c : PlainCertificate) → IsValid (raw_certificate bound) c
    → IsValid (algorithm_identifier bound) (inner_algorithm c) × IsValid (algorithm_identifier bound) (outer_algorithm c)
unfolding IsValid IsContent IsBody
valid_algorithms bound c h = (h.0.0.0.1.1.0, h.0.1.0)

-- The issuer's name has an encoding.
pub valid_issuer : (bound : ℕ) (c : PlainCertificate) → IsValid (raw_certificate bound) c → IsValid (name bound) (issuer c)
unfolding IsValid IsContent IsBody
valid_issuer bound c h = h.0.0.0.1.1.1.0
