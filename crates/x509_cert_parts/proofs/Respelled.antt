-- Lemmas for re-encoded dates: they have an encoding, and which of them are unchanged.
use Rattle.std.proofs.Common.{ℕ, ◌≤◌, List, length, length-append, ap, arith, inl, inr, ◌≡◌, ◌+◌, Bool, true, false, cond, [], ◌++◌, refl, nat_lt, ◌↔◌, ltb-false}
use Rattle.std.proofs.lemmas.Bool.{cases_lt}
use Rattle.der_core.specs.Oid.Digits.{digits}
use Rattle.der_core.proofs.DigitLaws.{fewer_digits}
use Rattle.der_core.specs.TagTypes.Tag.{Tag}
use Rattle.der_core.specs.Heads.{Fits, tlv, head_octets, length_octets}
use Rattle.der_core.specs.Shapes.{Shape, Body, Value, BodyValue, field, tagged, nested, octets_of, body_octets, IsValid, IsContent, IsBody, contents}
use Rattle.der_core.specs.Tags.{tag_octets}
use Rattle.der_core.proofs.HeadLaws.{length-short, length-long}
use Rattle.der_core.specs.TagTypes.Tag.TheVariants as tags
use Rattle.der_core.specs.Dates.{Civil, is_civil, IsUtc, utc_octets, generalized_octets}
use Rattle.der_core.proofs.OneEncoding.{one_value}
use Rattle.x509_cert_parts.specs.Grammar.{time, validity, validity_fields, PlainTime, PlainValidity, not_before, not_after}
use Rattle.x509_cert_parts.specs.Respelling.{respelled, spelled_by, validity_by, is_early_generalized}

-- A shorter content doesn't have a longer encoding.

length_shorter : (m n : ℕ) → m ≤ n → length (length_octets m) ≤ length (length_octets n)
length_shorter m n le =
    elim (cases_lt n 128) [
      | inl b ↦ omega (arith, ap length (length-short m (omega (arith, le, b))), ap length (length-short n b))
      | inr b ↦ elim (cases_lt m 128) [
        | inl a ↦ omega (arith, ap length (length-short m a), ap length (length-long n (digits 256 n) b refl))
        | inr a ↦ omega (arith, fewer_digits 256 m n (omega arith) le, ap length (length-long m (digits 256 m) a refl), ap length (length-long n (digits 256 n) b refl))
      ]
    ]

tlv_shorter : (t : Tag) (v w : List ℕ) → length v ≤ length w → length (tlv t v) ≤ length (tlv t w)
unfolding tlv head_octets
tlv_shorter t v w le =
    omega (
      arith,
      le,
      length_shorter (length v) (length w) le,
      length-append (head_octets t (length v)) v,
      length-append (head_octets t (length w)) w,
      length-append (tag_octets t) (length_octets (length v)),
      length-append (tag_octets t) (length_octets (length w)),
    )

tlv_fits : (t : Tag) (v w : List ℕ) → length v ≤ length w → Fits (tlv t w) → Fits (tlv t v)
tlv_fits t v w le h = omega (arith, h, tlv_shorter t v w le)

-- A value after a tag, whose content isn't longer than another.
module _ (t : Tag) (b : Body) (new old : BodyValue b) (le : length (body_octets b new) ≤ length (body_octets b old)) where
  pub nested_shorter : length (octets_of (tagged t (nested b)) new) ≤ length (octets_of (tagged t (nested b)) old)
  unfolding octets_of contents
  nested_shorter = tlv_shorter t (body_octets b new) (body_octets b old) le

  pub nested_valid : IsBody b new → IsValid (tagged t (nested b)) old → IsValid (tagged t (nested b)) new
  unfolding IsValid IsContent contents
  nested_valid n h = (n, h.1, tlv_fits t (body_octets b new) (body_octets b old) le h.2)

-- A field that is unchanged, before others and after them.
pub behind_same : (s : Shape) (b : Body) (x : Value s) (v w : BodyValue b) → length (body_octets b v) ≤ length (body_octets b w)
    → length (body_octets (field s b) (x, v)) ≤ length (body_octets (field s b) (x, w))
unfolding body_octets
behind_same s b x v w le = omega (arith, le, length-append (octets_of s x) (body_octets b v), length-append (octets_of s x) (body_octets b w))

pub before_same : (s : Shape) (b : Body) (x y : Value s) (v : BodyValue b) → length (octets_of s x) ≤ length (octets_of s y)
    → length (body_octets (field s b) (x, v)) ≤ length (body_octets (field s b) (y, v))
unfolding body_octets
before_same s b x y v le = omega (arith, le, length-append (octets_of s x) (body_octets b v), length-append (octets_of s y) (body_octets b v))

-- A date in either encoding.
abbrev spelling : Bool → Civil → PlainTime
spelling b c = cond b (inr c) (inl c)

utc_valid : (c : Civil) → IsUtc c → IsValid time (inl c)
unfolding IsValid IsContent contents tlv head_octets length_octets tag_octets utc_octets
utc_valid c h = (h, omega arith, omega arith)

civil_of_valid : (c : Civil) → IsValid time (inr c) → is_civil c ≡ true
unfolding IsValid IsContent
civil_of_valid c h = h.0

spelling_valid : (c : Civil) (b : Bool) → nat_lt 2049 c.year ≡ b → IsValid time (inr c) → IsValid time (spelling b c)
spelling_valid c true e h = h
spelling_valid c false e h = utc_valid c (record { civil = civil_of_valid c h; year = ltb-false 2049 c.year e })

respelled_valid : (t : PlainTime) → IsValid time t → IsValid time (respelled t)
respelled_valid (inl c) h = h
respelled_valid (inr c) h = spelling_valid c (nat_lt 2049 c.year) refl h

spelled_valid : (r : Bool) (t : PlainTime) → IsValid time t → IsValid time (spelled_by r t)
spelled_valid true t h = respelled_valid t h
spelled_valid false t h = h

-- A re-encoded date isn't longer.
utc_shorter : (c : Civil) → length (octets_of time (inl c)) ≤ length (octets_of time (inr c))
unfolding octets_of contents tlv head_octets length_octets tag_octets utc_octets generalized_octets
utc_shorter c = omega arith

spelling_shorter : (c : Civil) (b : Bool) → length (octets_of time (spelling b c)) ≤ length (octets_of time (inr c))
spelling_shorter c true = omega arith
spelling_shorter c false = utc_shorter c

respelled_shorter : (t : PlainTime) → length (octets_of time (respelled t)) ≤ length (octets_of time t)
respelled_shorter (inl c) = omega arith
respelled_shorter (inr c) = spelling_shorter c (nat_lt 2049 c.year)

spelled_shorter : (r : Bool) (t : PlainTime) → length (octets_of time (spelled_by r t)) ≤ length (octets_of time t)
spelled_shorter true t = respelled_shorter t
spelled_shorter false t = omega arith

dates_length : (v : PlainValidity) → length (body_octets validity_fields v) ≡ length (octets_of time (not_before v)) + length (octets_of time (not_after v))
unfolding body_octets
dates_length v =
    omega (arith, length-append (octets_of time (not_before v)) (octets_of time (not_after v) ++ []), length-append (octets_of time (not_after v)) [])

fields_shorter : (r : Bool) (v : PlainValidity) → length (body_octets validity_fields (validity_by r v)) ≤ length (body_octets validity_fields v)
fields_shorter r v = omega (arith, dates_length v, dates_length (validity_by r v), spelled_shorter r (not_before v), spelled_shorter r (not_after v))

pub validity_shorter : (r : Bool) (v : PlainValidity) → length (octets_of validity (validity_by r v)) ≤ length (octets_of validity v)
validity_shorter r v = nested_shorter tags.Sequence validity_fields (validity_by r v) v (fields_shorter r v)

pub validity_valid : (r : Bool) (v : PlainValidity) → IsValid validity v → IsValid validity (validity_by r v)
unfolding IsValid IsContent IsBody
validity_valid r v h =
    nested_valid tags.Sequence validity_fields (validity_by r v) v (fields_shorter r v) (spelled_valid r (not_before v) h.0.0, (spelled_valid r (not_after v) h.0.1.0, tt)) h

spelling_same : (c : Civil) (b : Bool) → (spelling b c ≡ inr c) ↔ (cond b false true ≡ false)
spelling_same c true = (λ e. refl, λ e. refl)
spelling_same c false = (λ e. absurd cc, λ e. absurd cc)

time_same : (t : PlainTime) → (respelled t ≡ t) ↔ (is_early_generalized t ≡ false)
time_same (inl c) = (λ e. refl, λ e. refl)
time_same (inr c) = spelling_same c (nat_lt 2049 c.year)

pub validity_same : (v : PlainValidity) → (validity_by true v ≡ v) ↔ ((is_early_generalized (not_before v) ≡ false) × (is_early_generalized (not_after v) ≡ false))
validity_same v =
    let before = time_same (not_before v) in
    let after = time_same (not_after v) in (
      λ e. (before.0 (ap (λ (w : PlainValidity). not_before w) e), after.0 (ap (λ (w : PlainValidity). not_after w) e)),
      λ h. rw (before.1 h.0, after.1 h.1) refl,
    )

pub octets_same : (v : PlainValidity) → IsValid validity v → (octets_of validity (validity_by true v) ≡ octets_of validity v)
    ↔ ((is_early_generalized (not_before v) ≡ false) × (is_early_generalized (not_after v) ≡ false))
octets_same v h =
    let same = validity_same v in (
      λ e. same.0 (one_value validity (validity_by true v) v [] [] refl refl (validity_valid true v h) h (ap (λ (w : List ℕ). w ++ []) e)).0,
      λ p. ap (λ (w : PlainValidity). octets_of validity w) (same.1 p),
    )
