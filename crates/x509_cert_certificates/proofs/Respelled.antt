-- Lemmas about certificates with re-encoded dates, and about certificates under two bounds on arcs.
use Rattle.std.proofs.Common.{◌≡◌, ℕ, ◌≤◌, List, [], ◌++◌, length, Bool, true, false, Option, refl, ap, ◌↔◌, zero, suc, ◌⊎◌, inl, inr, ◌∷◌, arith}
use Rattle.der_core.specs.TagTypes.Tag.TheVariants as tags
use Rattle.der_core.specs.Shapes.{Body, IsValid, IsContent, IsBody, field, done, octets_of, body_octets}
use Rattle.der_core.proofs.OneEncoding.{one_value}
use Rattle.x509_cert_names.specs.Names.{name}
use Rattle.x509_cert_parts.specs.Grammar.{PlainValidity, bit_string, algorithm_identifier, public_key_info, version_field, serial_number, validity, not_before, not_after}
use Rattle.x509_cert_parts.specs.Respelling.{validity_by, is_early_generalized}
use Rattle.x509_cert_parts.proofs.Respelled.{validity_valid, validity_shorter, validity_same, nested_shorter, nested_valid, behind_same, before_same}
use Rattle.x509_cert_certificates.specs.Certificates.{Tbs, PlainCertificate, tbs_fields, tbs_certificate, certificate_fields, certificate, optional_fields, from_validity, tbs, tbs_validity, tbs_by, certificate_by}
use Rattle.std.specs.List.{AllByRecursion}
use Rattle.der_core.specs.Bounds.{IsValidUnder, identifiers_of, HoldsLarge}
use Rattle.x509_cert_certificates.specs.Bounds.{certificate_identifiers, SpellsEach, OneHoldsLarge}
use Rattle.der_core.proofs.BoundLaws.{below_or_large, Family, valid_wider, valid_narrow}

-- The fields from the subject and from later ones on.
abbrev from_subject : ℕ → Body
from_subject bound = field (name bound) (field (public_key_info bound) (optional_fields bound))

abbrev from_issuer : ℕ → Body
from_issuer bound = field (name bound) (from_validity bound)

abbrev from_algorithm : ℕ → Body
from_algorithm bound = field (algorithm_identifier bound) (from_issuer bound)

abbrev from_serial : ℕ → Option ℕ → Body
from_serial bound limit = field (serial_number limit) (from_algorithm bound)

abbrev behind_tbs : ℕ → Body
behind_tbs bound = field (algorithm_identifier bound) (field bit_string done)

module _ (bound : ℕ) (limit : Option ℕ) (r : Bool) where
  fields_shorter : (t : Tbs) → length (body_octets (tbs_fields bound limit) (tbs_by r t)) ≤ length (body_octets (tbs_fields bound limit) t)
  fields_shorter t =
      let new = tbs_by r t in
      behind_same version_field (from_serial bound limit) t.0 new.1 t.1
      (behind_same (serial_number limit) (from_algorithm bound) t.1.0 new.1.1 t.1.1
      (behind_same (algorithm_identifier bound) (from_issuer bound) t.1.1.0 new.1.1.1 t.1.1.1
      (behind_same (name bound) (from_validity bound) t.1.1.1.0 new.1.1.1.1 t.1.1.1.1
      (before_same validity (from_subject bound) (validity_by r (tbs_validity t)) (tbs_validity t) t.1.1.1.1.1 (validity_shorter r (tbs_validity t))))))

  pub tbs_shorter : (t : Tbs) → length (octets_of (tbs_certificate bound limit) (tbs_by r t)) ≤ length (octets_of (tbs_certificate bound limit) t)
  tbs_shorter t = nested_shorter tags.Sequence (tbs_fields bound limit) (tbs_by r t) t (fields_shorter t)

  pub tbs_valid : (t : Tbs) → IsValid (tbs_certificate bound limit) t → IsValid (tbs_certificate bound limit) (tbs_by r t)
  unfolding IsValid IsContent IsBody
  tbs_valid t h =
      let b = h.0 in
      let dates = validity_valid r (tbs_validity t) b.1.1.1.1.0 in
      nested_valid tags.Sequence (tbs_fields bound limit) (tbs_by r t) t (fields_shorter t) (b.0, (b.1.0, (b.1.1.0, (b.1.1.1.0, (dates, b.1.1.1.1.1))))) h

  pub certificate_fields_shorter : (c : PlainCertificate) → length (body_octets (certificate_fields bound limit) (certificate_by r c)) ≤ length (body_octets (certificate_fields bound limit) c)
  certificate_fields_shorter c = before_same (tbs_certificate bound limit) (behind_tbs bound) (tbs_by r (tbs c)) (tbs c) c.1 (tbs_shorter (tbs c))

  pub certificate_valid : (c : PlainCertificate) → IsValid (certificate bound limit) c → IsValid (certificate bound limit) (certificate_by r c)
  unfolding IsValid IsContent IsBody
  certificate_valid c h =
      nested_valid tags.Sequence (certificate_fields bound limit) (certificate_by r c) c (certificate_fields_shorter c) (tbs_valid (tbs c) h.0.0, h.0.1) h

abbrev with_validity : PlainCertificate → PlainValidity → PlainCertificate
with_validity c v = let t = tbs c in ((t.0, (t.1.0, (t.1.1.0, (t.1.1.1.0, (v, t.1.1.1.1.1))))), c.1)

pub octets_same : (bound : ℕ) (limit : Option ℕ) (c : PlainCertificate) → IsValid (certificate bound limit) c
    → (octets_of (certificate bound limit) (certificate_by true c) ≡ octets_of (certificate bound limit) c)
    ↔ ((is_early_generalized (not_before (tbs_validity (tbs c))) ≡ false) × (is_early_generalized (not_after (tbs_validity (tbs c))) ≡ false))
octets_same bound limit c h =
    let same = validity_same (tbs_validity (tbs c)) in (
      λ e.
          let one : certificate_by true c ≡ c =
          (one_value (certificate bound limit) (certificate_by true c) c [] [] refl refl (certificate_valid bound limit true c h) h (ap (λ (w : List ℕ). w ++ []) e)).0 in
          same.0 (ap (λ (d : PlainCertificate). tbs_validity (tbs d)) one),
      λ p. ap (λ (v : PlainValidity). octets_of (certificate bound limit) (with_validity c v)) (same.1 p),
    )

-- Certificates under two bounds on arcs.

-- The encoding is the same, and validity depends on the bound of the shape.
pub bounds_alike : (bound : ℕ) (limit : Option ℕ) (c : PlainCertificate) → (IsValid (certificate bound limit) c ↔ IsValidUnder bound (certificate 0 limit) c) × (octets_of (certificate bound limit) c ≡ octets_of (certificate 0 limit) c)
unfolding IsValid IsValidUnder octets_of
bounds_alike bound limit c = ((λ h. h, λ h. h), refl)

abbrev pub certificates : (limit : Option ℕ) → Family (certificate 0 limit) (λ bound. certificate bound limit)
certificates limit = record {
  at = λ b v. v;
  judged = λ b v. (bounds_alike b limit v).0;
  spelled = λ b v. (bounds_alike b limit v).1;
  element = λ b. refl;
  apart = λ b. refl;
  enough = λ b. refl;
}

-- Certificates one after another.

each_wider : (small large : ℕ) (limit : Option ℕ) → small ≤ large → (cs : List PlainCertificate) → AllByRecursion (λ c. IsValid (certificate small limit) c) cs
    → AllByRecursion (λ c. IsValid (certificate large limit) c) cs
each_wider small large limit le [] h = tt
each_wider small large limit le (c ∷ cs) h = (valid_wider (certificate 0 limit) (λ b. certificate b limit) (certificates limit) small large c le h.0, each_wider small large limit le cs h.1)

valid_or_large : (small large : ℕ) (limit : Option ℕ) (c : PlainCertificate) → IsValid (certificate large limit) c
    → IsValid (certificate small limit) c ⊎ HoldsLarge small (certificate_identifiers c)
unfolding certificate_identifiers identifiers_of
valid_or_large small large limit c h =
    elim (below_or_large small (identifiers_of (certificate 0 limit) c)) [
      | inl k ↦ inl (valid_narrow (certificate 0 limit) (λ b. certificate b limit) (certificates limit) small large c h k)
      | inr p ↦ inr p
    ]

each_or_large : (small large : ℕ) (limit : Option ℕ) (cs : List PlainCertificate) → AllByRecursion (λ c. IsValid (certificate large limit) c) cs
    → AllByRecursion (λ c. IsValid (certificate small limit) c) cs ⊎ OneHoldsLarge small cs
each_or_large small large limit [] h = inl tt
each_or_large small large limit (c ∷ cs) h = by (valid_or_large small large limit c h.0) (each_or_large small large limit cs h.1)
  where
    by : IsValid (certificate small limit) c ⊎ HoldsLarge small (certificate_identifiers c) → AllByRecursion (λ c. IsValid (certificate small limit) c) cs ⊎ OneHoldsLarge small cs
        → AllByRecursion (λ c. IsValid (certificate small limit) c) (c ∷ cs) ⊎ OneHoldsLarge small (c ∷ cs)
    by (inr p) _ = inr (c, (zero, omega arith, refl), p)
    by (inl k) (inl all) = inl (k, all)
    by (inl k) (inr p) = inr (p.0, (suc p.1.0, omega (arith, p.1.1), p.1.2), p.2)

pub chains_wider : (small large : ℕ) (limit : Option ℕ) (cs : List PlainCertificate) (w : List ℕ) → small ≤ large → SpellsEach small limit cs w → SpellsEach large limit cs w
unfolding octets_of
chains_wider small large limit cs w le h = record { valid = each_wider small large limit le cs h.valid; octets = h.octets }

pub chains_new : (small large : ℕ) (limit : Option ℕ) (cs : List PlainCertificate) (w : List ℕ) → SpellsEach large limit cs w → SpellsEach small limit cs w ⊎ OneHoldsLarge small cs
unfolding octets_of
chains_new small large limit cs w h =
    elim (each_or_large small large limit cs h.valid) [
      | inl all ↦ inl (record { valid = all; octets = h.octets })
      | inr p ↦ inr p
    ]
