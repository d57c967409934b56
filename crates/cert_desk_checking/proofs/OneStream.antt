-- Chains that show a verifier the same have the same bytes.
use Rattle.std.proofs.Common.{◌≡◌, ℕ, suc, List, [], ◌∷◌, ◌++◌, Option, Some, None, slice_get, refl, sym, ap, ◌∙◌}
use Rattle.std.specs.List.{AllByRecursion}
use Rattle.std.specs.Option.{option_map}
use Rattle.x509_cert_anchors.specs.Der.BitStrings.{Bits}
use Rattle.x509_cert_anchors.specs.Der.Shapes.{octets_of, IsValid, IsContent, IsBody}
use Rattle.x509_cert_anchors.proofs.Der.OneEncoding.{one_value}
use Rattle.x509_cert_anchors.specs.CertCertificates.Certificates.{PlainCertificate, Tbs, raw_certificate}
use Rattle.x509_cert_anchors.specs.CertCertificates.Certificates.{raw_tbs_certificate, outer_algorithm}
use Rattle.x509_cert_anchors.specs.CertCertificates.Certificates.{signature_bits, tbs}
use Rattle.x509_cert_anchors.specs.CertParts.Grammar.{Algorithm}
use Rattle.cert_desk_rules.specs.DeskBundle.Chains.{Chain, Stands, joined}
use Rattle.cert_desk_checking.specs.Issuers.{shown_at}
use Rattle.cert_desk_rules.specs.Judging.{signed_part}
use Rattle.cert_desk_checking.proofs.Encodings.{signed_part-is}

valid_signed : (bound : ℕ) (c : PlainCertificate) → IsValid (raw_certificate bound) c → IsValid (raw_tbs_certificate bound) (tbs c)
unfolding IsValid IsContent IsBody
valid_signed bound c h = h.0.0

-- The facts about a certificate that a verifier gets, from the certificate's own bytes.
abbrev shown : ℕ → PlainCertificate → List ℕ × Algorithm × Bits
shown bound c = (octets_of (raw_tbs_certificate bound) (tbs c), outer_algorithm c, signature_bits c)

one_certificate : (bound : ℕ) (c d : PlainCertificate) → IsValid (raw_certificate bound) c → IsValid (raw_certificate bound) d → shown bound c ≡ shown bound d → c ≡ d
one_certificate bound c d v w e =
    let s = raw_tbs_certificate bound in
    let signed : tbs c ≡ tbs d = (one_value s (tbs c) (tbs d) [] [] refl refl (valid_signed bound c v) (valid_signed bound d w) (ap (λ (x : List ℕ × Algorithm × Bits). x.0 ++ []) e)).0 in
    ap (λ (p : Tbs). (p, c.1)) signed
    ∙ ap (λ (a : Algorithm). (tbs d, (a, c.1.1))) (ap (λ (x : List ℕ × Algorithm × Bits). x.1) e)
    ∙ ap (λ (b : Bits). (tbs d, (outer_algorithm d, (b, tt)))) (ap (λ (x : List ℕ × Algorithm × Bits). x.2) e)

shown_mapped : (bound : ℕ) (cs : List PlainCertificate) (place : ℕ) → shown_at bound cs (joined bound cs) place ≡ option_map (shown bound) (slice_get cs place)
shown_mapped bound cs place = by (slice_get cs place) refl
  where
    by : (o : Option PlainCertificate) → slice_get cs place ≡ o
        → option_map (λ c. (signed_part bound cs (joined bound cs) place c, outer_algorithm c, signature_bits c)) o ≡ option_map (shown bound) o
    by None e = refl
    by (Some c) e =
        let at : List ℕ → Option (List ℕ × Algorithm × Bits) = λ w. Some (w, outer_algorithm c, signature_bits c) in
        ap at (signed_part-is bound cs place c e)

same_certificates : (bound limit other : ℕ) (cs ds : List PlainCertificate) → AllByRecursion (Stands bound limit) cs → AllByRecursion (Stands bound other) ds
    → ((place : ℕ) → option_map (shown bound) (slice_get cs place) ≡ option_map (shown bound) (slice_get ds place)) → cs ≡ ds
same_certificates bound limit other [] [] p q same = refl
same_certificates bound limit other [] (d ∷ ds) p q same = let none : None ≡ Some (shown bound d) = same 0 in absurd cc
same_certificates bound limit other (c ∷ cs) [] p q same = let none : Some (shown bound c) ≡ None = same 0 in absurd cc
same_certificates bound limit other (c ∷ cs) (d ∷ ds) p q same =
    let both : Some (shown bound c) ≡ Some (shown bound d) = same 0 in
    let one : shown bound c ≡ shown bound d = cc in
    ap (λ (x : PlainCertificate). x ∷ cs) (one_certificate bound c d p.0.valid q.0.valid one)
    ∙ ap (λ (xs : List PlainCertificate). d ∷ xs) (same_certificates bound limit other cs ds p.1 q.1 (λ place. same (suc place)))

pub one_stream : (bound limit other_limit : ℕ) (cs : List PlainCertificate) (stream other : List ℕ) → Chain bound limit cs stream → Chain bound other_limit cs other → stream ≡ other
one_stream bound limit other_limit cs stream other p q = p.joins ∙ sym q.joins

pub nothing_outside : (bound limit other_limit : ℕ) (cs ds : List PlainCertificate) (stream other : List ℕ) → Chain bound limit cs stream → Chain bound other_limit ds other
    → ((place : ℕ) → shown_at bound cs stream place ≡ shown_at bound ds other place) → stream ≡ other
nothing_outside bound limit other_limit cs ds stream other p q same =
    let certificates : cs ≡ ds = same_certificates bound limit other_limit cs ds p.each q.each
    (λ place.
    sym (shown_mapped bound cs place) ∙ ap (λ (s : List ℕ). shown_at bound cs s place) (sym p.joins) ∙ same place
    ∙ ap (λ (s : List ℕ). shown_at bound ds s place) q.joins ∙ shown_mapped bound ds place) in
    p.joins ∙ ap (joined bound) certificates ∙ sym q.joins
