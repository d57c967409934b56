-- Laws about the position of a certificate in a bundle, and of its parts in its bytes.
use Rattle.std.proofs.Common.{◌≡◌, ℕ, zero, suc, ◌+◌, ◌-◌, ◌^◌, ◌<◌, ◌≤◌, ◌≢◌, List, [], ◌∷◌, ◌++◌, length, take, drop, Some, Result, Ok, Err, is_ok, true, false, cond, refl, sym, ap, subst, ◌∙◌, arith, ◌⊎◌, inl, inr, length-append, length-drop, slice_get}
use Rattle.std.proofs.lemmas.List.{take_at, drop_at, take-append-le, map_push, length-map}
use Rattle.std.specs.List.{AllByRecursion}
use Rattle.x509_cert_certificates.specs.Der.TagTypes.Tag.TheVariants as tags
use Rattle.x509_cert_certificates.specs.Der.Heads.{head_octets, head_at, tlv, Fits}
use Rattle.x509_cert_certificates.specs.Der.Shapes.{IsValid, IsContent, IsBody, Spells, octets_of, body_octets, contents}
use Rattle.x509_cert_certificates.specs.Certificates.{PlainCertificate, raw_certificate}
use Rattle.x509_cert_certificates.specs.Certificates.{raw_tbs_certificate, certificate_octets, tbs}
use Rattle.x509_cert_certificates.specs.Certificates.{signed_start, signed_length}
use Rattle.x509_cert_certificates.specs.CertParts.Grammar.{algorithm_identifier, bit_string}
use Rattle.x509_cert_certificates.specs.Oid.Bound.{Bound}
use Rattle.x509_cert_certificates.specs.Der.ErrorTypes.ErrorKind.{ErrorKind}
use Rattle.x509_cert_certificates.specs.Der.ErrorTypes.ErrorKind.TheVariants as errors
use Rattle.cert_desk_bundle.specs.declared.fault_kind.FaultKind.TheVariants as kinds
use Rattle.cert_desk_bundle.specs.declared.standing.Standing.{Standing}
use Rattle.cert_desk_bundle.specs.declared.standing.Standing.TheVariants as standings
use Rattle.cert_desk_bundle.specs.declared.located.Located.{Located}
use Rattle.cert_desk_bundle.specs.Chains.{Stands, joined, offset_at}
use Rattle.cert_desk_bundle.specs.Headers.{IsContentAt}
use Rattle.cert_desk_bundle.specs.Locations.{plain_of, certificates_of, IsPlacedAt, IsUnread, AreKept}
use Rattle.cert_desk_bundle.proofs.Scans.{at_header, one_content}
use Rattle.cert_desk_bundle.proofs.SeriesLaws.{each-more}
use Rattle.cert_desk_bundle.proofs.Readings.{joined-more}

-- The fields of a certificate.

-- The bytes after the TBSCertificate, and the bytes after the header.
abbrev pub behind_signed : ℕ → PlainCertificate → List ℕ
behind_signed bound c = octets_of (algorithm_identifier bound) c.1.0 ++ (octets_of bit_string c.1.1.0 ++ [])

abbrev pub fields_octets : ℕ → PlainCertificate → List ℕ
fields_octets bound c = octets_of (raw_tbs_certificate bound) (tbs c) ++ behind_signed bound c

pub octets_by_fields : (bound : ℕ) (c : PlainCertificate) → certificate_octets bound c ≡ head_octets tags.Sequence (length (fields_octets bound c)) ++ fields_octets bound c
unfolding octets_of contents body_octets tlv
octets_by_fields bound c = refl

pub start_by_fields : (bound : ℕ) (c : PlainCertificate) → signed_start bound c ≡ length (head_octets tags.Sequence (length (fields_octets bound c)))
unfolding signed_start body_octets
start_by_fields bound c = refl

signed_length-is : (bound : ℕ) (c : PlainCertificate) → signed_length bound c ≡ length (octets_of (raw_tbs_certificate bound) (tbs c))
unfolding signed_length
signed_length-is bound c = refl

-- The TBSCertificate and the bytes after it, within a certificate's bytes.
pub signed_in : (bound : ℕ) (c : PlainCertificate) → take (signed_length bound c) (drop (signed_start bound c) (certificate_octets bound c)) ≡ octets_of (raw_tbs_certificate bound) (tbs c)
signed_in bound c =
    let fields = fields_octets bound c in
    let behind : drop (signed_start bound c) (certificate_octets bound c) ≡ fields =
    ap (λ (x : List ℕ). drop (signed_start bound c) x) (octets_by_fields bound c) ∙ drop_at (head_octets tags.Sequence (length fields)) fields (signed_start bound c) (sym (start_by_fields bound c)) in
    ap (λ (x : List ℕ). take (signed_length bound c) x) behind
    ∙ take_at (octets_of (raw_tbs_certificate bound) (tbs c)) (behind_signed bound c) (signed_length bound c) (sym (signed_length-is bound c))

pub signed_within : (bound : ℕ) (c : PlainCertificate) → signed_start bound c + signed_length bound c ≤ length (certificate_octets bound c)
signed_within bound c =
    let fields = fields_octets bound c in
    omega (arith, ap length (octets_by_fields bound c), length-append (head_octets tags.Sequence (length fields)) fields, length-append (octets_of (raw_tbs_certificate bound) (tbs c)) (behind_signed bound c), start_by_fields bound c, signed_length-is bound c)

-- Fields that are decoded one after another.

pub fields_valid : (bound : ℕ) (c : PlainCertificate) → IsValid (raw_certificate bound) c → IsValid (raw_tbs_certificate bound) (tbs c) × IsValid (algorithm_identifier bound) c.1.0 × IsValid bit_string c.1.1.0
unfolding IsValid IsContent IsBody
fields_valid bound c valid = (valid.0.0, valid.0.1.0, valid.0.1.1.0)

pub valid_of : (bound : ℕ) (c : PlainCertificate) → IsValid (raw_tbs_certificate bound) (tbs c) → IsValid (algorithm_identifier bound) c.1.0 → IsValid bit_string c.1.1.0 → Fits (certificate_octets bound c) → IsValid (raw_certificate bound) c
unfolding IsValid IsContent IsBody octets_of
valid_of bound c t a b fits = ((t, (a, (b, tt))), omega arith, fits)

pub signed_by_fields : (c : PlainCertificate) (content behind : List ℕ) → content ≡ octets_of (raw_tbs_certificate Bound) (tbs c) ++ behind → length content - length behind ≡ signed_length Bound c
signed_by_fields c content behind e = omega (arith, signed_length-is Bound c, ap length e, length-append (octets_of (raw_tbs_certificate Bound) (tbs c)) behind)

-- If a field can't be decoded and memory didn't run out, no certificate has these bytes.
pub unread : (octets : List ℕ) (standing : Standing) (k : ErrorKind) → (standing ≡ standings.NoMemory) ⊎ ((standing ≡ standings.Faulted kinds.Malformed) × (k ≢ errors.OutOfMemory))
    → (k ≢ errors.OutOfMemory → (c : PlainCertificate) → Spells (raw_certificate Bound) c octets → ⊥) → IsUnread octets standing
unread octets standing k (inl m) none = inl m
unread octets standing k (inr f) none = inr (f.0, none f.1)

module _ (octets : List ℕ) (start : ℕ) (at : IsContentAt octets start) where
  pub start_within : start ≤ length octets
  start_within = omega (arith, at.start_is, ap length at.whole, length-append (head_octets tags.Sequence (length (drop start octets))) (drop start octets))

  pub rest_fits : Fits (drop start octets)
  rest_fits = omega (arith, at.fits, length-drop start octets)

  -- The bytes after the header of a certificate that has these bytes.
  pub fields_there : (c : PlainCertificate) → Spells (raw_certificate Bound) c octets → drop start octets ≡ fields_octets Bound c
  fields_there c s =
      let fields = fields_octets Bound c in
      let there : octets ≡ head_octets tags.Sequence (length fields) ++ fields = s.octets ∙ octets_by_fields Bound c in
      let small : length fields < 2 ^ 32 = omega (arith, at.fits, ap length there, length-append (head_octets tags.Sequence (length fields)) fields) in
      one_content (length (drop start octets)) (length fields) (drop start octets) fields
      (sym (ap head_at at.whole ∙ at_header (length (drop start octets)) (drop start octets) (omega (arith, rest_fits))) ∙ (ap head_at there ∙ at_header (length fields) fields small))

  pub second_fits : (c : PlainCertificate) → Spells (raw_certificate Bound) c octets → Fits (behind_signed Bound c)
  second_fits c s = omega (arith, rest_fits, ap length (fields_there c s), length-append (octets_of (raw_tbs_certificate Bound) (tbs c)) (behind_signed Bound c))

  -- Fields that follow one another are those of a certificate.
  pub fields_spell : (c : PlainCertificate) → IsValid (raw_tbs_certificate Bound) (tbs c) → IsValid (algorithm_identifier Bound) c.1.0 → IsValid bit_string c.1.1.0
      → drop start octets ≡ fields_octets Bound c → (Spells (raw_certificate Bound) c octets) × (start ≡ signed_start Bound c)
  fields_spell c t a b e =
      let is : octets ≡ certificate_octets Bound c = at.whole ∙ ap (λ (w : List ℕ). head_octets tags.Sequence (length w) ++ w) e ∙ sym (octets_by_fields Bound c) in
      let fits : Fits (certificate_octets Bound c) = omega (arith, at.fits, ap length is) in
      (record { valid = valid_of Bound c t a b fits; octets = is }, at.start_is ∙ ap (λ (w : List ℕ). length (head_octets tags.Sequence (length w))) e ∙ sym (start_by_fields Bound c))

-- A bundle without certificates, and a bundle with one more.

pub kept-none : (limit : ℕ) → AreKept limit 0 []
kept-none limit = record { end_is = refl; each = tt; places = λ place l e. absurd cc }

last_or : (items : List Located) (l m : Located) (place : ℕ) → slice_get (items ++ l ∷ []) place ≡ Some m → ((place < length items) × (slice_get items place ≡ Some m)) ⊎ ((place ≡ length items) × (l ≡ m))
last_or [] l m zero e = inr (refl, cc)
last_or [] l m (suc place) e = absurd cc
last_or (x ∷ items) l m zero e = inl (omega arith, e)
last_or (x ∷ items) l m (suc place) e = elim (last_or items l m place e) [ inl h ↦ inl (omega arith, h.1) | inr h ↦ inr (omega arith, h.1) ]

module _ (limit end : ℕ) (items : List Located) (k : AreKept limit end items) (octets : List ℕ) (l : Located) (p : IsPlacedAt end octets l) where
  cs : List PlainCertificate
  cs = certificates_of items

  abbrev longer : List PlainCertificate
  longer = certificates_of items ++ plain_of l ∷ []

  pub certificates-more : certificates_of (items ++ l ∷ []) ≡ certificates_of items ++ plain_of l ∷ []
  certificates-more = map_push plain_of items l

  pub kept-more : Stands Bound limit (plain_of l) → AreKept limit (end + length octets) (items ++ l ∷ [])
  kept-more stands = record {
    end_is = omega (arith, k.end_is, ap length p.spelled.octets, ap (λ (xs : List PlainCertificate). length (joined Bound xs)) certificates-more, ap length (joined-more Bound (certificates_of items) (plain_of l)), length-append (joined Bound (certificates_of items)) (certificate_octets Bound (plain_of l)));
    each = subst (λ (xs : List PlainCertificate). AllByRecursion (Stands Bound limit) xs) (sym certificates-more) (each-more (Stands Bound limit) (certificates_of items) (plain_of l) k.each stands);
    places = λ place m e.
        subst (λ (xs : List PlainCertificate). IsPlacedAt (offset_at Bound xs place) (certificate_octets Bound (plain_of m)) m) (sym certificates-more)
        (elim (last_or items l m place e) [ inl h ↦ before place m h.0 (k.places place m h.1) | inr h ↦ here place m h.0 h.1 ]);
  }
    where
      before : (place : ℕ) (m : Located) → place < length items → IsPlacedAt (offset_at Bound (certificates_of items) place) (certificate_octets Bound (plain_of m)) m
          → IsPlacedAt (offset_at Bound longer place) (certificate_octets Bound (plain_of m)) m
      before place m h i =
          let same : offset_at Bound longer place ≡ offset_at Bound (certificates_of items) place =
          ap (λ (xs : List PlainCertificate). length (joined Bound xs)) (take-append-le place (certificates_of items) (plain_of l ∷ []) (omega (arith, length-map items plain_of))) in
          rw same i

      at_last : offset_at Bound longer (length items) ≡ end
      at_last = ap (λ (xs : List PlainCertificate). length (joined Bound xs)) (take_at (certificates_of items) (plain_of l ∷ []) (length items) (length-map items plain_of)) ∙ sym k.end_is

      here : (place : ℕ) (m : Located) → place ≡ length items → l ≡ m → IsPlacedAt (offset_at Bound longer place) (certificate_octets Bound (plain_of m)) m
      here place m h e =
          subst (λ (x : Located). IsPlacedAt (offset_at Bound longer place) (certificate_octets Bound (plain_of x)) x) e
          (rw (h, at_last) (subst (λ (x : List ℕ). IsPlacedAt end x l) p.spelled.octets p))

-- The list after a successful or failed push.
pub pushed : {X E : Type 0} (r : Result (Unit {0}) E) (xs ys zs : List X) → zs ≡ cond (is_ok r) xs ys → is_ok r ≡ true → zs ≡ xs
pushed (Ok x) xs ys zs e i = e
pushed (Err x) xs ys zs e i = absurd cc

pub unpushed : {X E : Type 0} (r : Result (Unit {0}) E) (xs ys zs : List X) → zs ≡ cond (is_ok r) xs ys → is_ok r ≡ false → zs ≡ ys
unpushed (Ok x) xs ys zs e i = absurd cc
unpushed (Err x) xs ys zs e i = e
