-- Certificates that a builder makes: they have the ordered TBSCertificate and an encoding, or there
-- is a reason why there is none.
use Rattle.std.proofs.Common.{◌≡◌, ◌≢◌, ◌⊎◌, ℕ, ◌≤◌, List, ◌++◌, length, Bool, true, false, Result, Ok, Err, Some, None, refl, sym, ap, ◌∙◌, subst, arith, inl, inr}
use Rattle.std.specs.Prelude.{pos, nat_lt, if◌then◌else◌}
use Rattle.cert_desk_listing.specs.Oid.Bound.{Bound}
use Rattle.cert_desk_listing.specs.Der.ErrorTypes.ErrorKind.{ErrorKind}
use Rattle.cert_desk_listing.specs.Der.ErrorTypes.ErrorKind.TheVariants as kinds
use Rattle.cert_desk_listing.specs.Der.BitStrings.{Bits, IsBits}
use Rattle.cert_desk_listing.specs.Der.Dates.{Civil}
use Rattle.cert_desk_listing.specs.Der.Integers.{integer_octets}
use Rattle.cert_desk_listing.specs.Der.Ranges.{IsInRange}
use Rattle.cert_desk_listing.specs.Der.Shapes.{IsBody, IsContent, IsValid, body_octets, contents, octets_of}
use Rattle.cert_desk_listing.proofs.Der.Written.{valid_in_range}
use Rattle.x509_cert_builders.specs.Refusals.{IsUnsigned, IsWantOfMemory, HasNoEncoding, IsUnwritten}
use Rattle.x509_cert_builders.specs.declared.build_error.Error.{Error as BuilderError}
use Rattle.x509_cert_builders.specs.declared.build_error.Error.TheVariants as builders
use Rattle.x509_cert_builders.specs.declared.sign_error.SignError.TheVariants as signers
use Rattle.cert_desk_listing.specs.CertCertificates.Assembling.{bare_part, signed_part}
use Rattle.x509_cert_builders.specs.SignedParts.{part_shape, written_part}
use Rattle.x509_cert_builders.specs.States.{CertificateState, part_for}
use Rattle.cert_desk_orders.specs.CertParts.Grammar.{Algorithm, PlainExtension, PublicKey}
use Rattle.cert_desk_orders.specs.CertParts.Grammar.{algorithm_identifier, bit_string, PlainValidity}
use Rattle.cert_desk_listing.specs.CertNames.Names.{PlainName}
use Rattle.cert_desk_orders.specs.CertParts.Times.{time_of}
use Rattle.cert_desk_listing.specs.CertCertificates.Certificates.{PlainCertificate, Tbs, certificate_octets}
use Rattle.cert_desk_listing.specs.CertCertificates.Certificates.{outer_algorithm, raw_certificate}
use Rattle.cert_desk_listing.specs.CertCertificates.Certificates.{signature_bits, tbs, certificate}
use Rattle.cert_desk_listing.specs.CertCertificates.Certificates.{tbs_certificate}
use Rattle.cert_desk_orders.specs.CertParts.Respelling.{respelled, validity_by}
use Rattle.cert_desk.specs.declared.role.Role.{Role}
use Rattle.cert_desk.specs.declared.role.Role.TheVariants as roles
use Rattle.cert_desk.specs.declared.stop.Stop.{Stop}
use Rattle.cert_desk.specs.declared.stop.Stop.TheVariants as stops
use Rattle.cert_desk.specs.Making.{IsMadeOf, IsProfile, fields_below}
use Rattle.cert_desk.specs.Ordered.{extensions_for, names_for, ordered_part, part_octets}
use Rattle.cert_desk.specs.PlainOrders.{IsReady, PlainOrder, begins, ends}
use Rattle.cert_desk.specs.Refusals.{HasPart, Stops, stop_of, stop_of_kind}

-- Dates in the forms of RFC 5280 are encoded as they are.
respelled_if : (c : Civil) (b : Bool) → nat_lt 2049 c.year ≡ b → respelled (if b then inr c else inl c) ≡ (if b then inr c else inl c)
respelled_if c true e = ap (λ (x : Bool). if x then inr c else inl c) e
respelled_if c false e = refl

respelled_again : (c : Civil) → respelled (time_of c) ≡ time_of c
respelled_again c = respelled_if c (nat_lt 2049 c.year) refl

dates_again : (v : PlainValidity) (b e : Civil) → v ≡ (time_of b, (time_of e, tt)) → validity_by true v ≡ v
dates_again v b e h =
    let first = respelled_again b in
    let last = respelled_again e in
    let same : validity_by true (time_of b, (time_of e, tt)) ≡ (time_of b, (time_of e, tt)) = cc in
    subst (λ (w : PlainValidity). validity_by true w ≡ w) (sym h) same

-- A builder with these fields and the extensions of a role encodes the ordered TBSCertificate.
listed_part : (role : Role) (p above : PlainOrder) (a : Algorithm) (issuer : PlainName) → signed_part (fields_below issuer p) a (extensions_for role p above.key)
    ≡ (pos 2, (p.serial, (a, (issuer, (p.validity, (p.subject, (p.key, (None, (None, (Some (extensions_for role p above.key), tt))))))))))
listed_part roles.Root p above a issuer = refl
listed_part _ p above a issuer = refl

pub ordered_written : (role : Role) (p above : PlainOrder) (a : Algorithm) (issuer : PlainName) (es : List PlainExtension) → IsReady role p → issuer ≡ above.subject → es ≡ extensions_for role p above.key
    → written_part (signed_part (fields_below issuer p) a es) ≡ ordered_part role p above a
ordered_written role p above a issuer es r e f =
    let part = ordered_part role p above a in
    ap (λ (xs : List PlainExtension). written_part (signed_part (fields_below issuer p) a xs)) f
    ∙ ap (λ (n : PlainName). written_part (signed_part (fields_below n p) a (extensions_for role p above.key))) e
    ∙ ap written_part (listed_part role p above a above.subject)
    ∙ ap (λ (v : PlainValidity). (part.0, (part.1.0, (part.1.1.0, (part.1.1.1.0, (v, part.1.1.1.1.1)))))) (dates_again p.validity (begins p) (ends p) r.spelled)

-- A builder with the profile of a role signs the ordered TBSCertificate.
pub profile_part : {P : Type 0} (subject_name : P → Result PlainName BuilderError) (issuer_name : P → PlainName → PlainName) (extensions : P → PublicKey → PublicKey → Tbs → List PlainExtension) (refuses : P → BuilderError → Type 0)
    (role : Role) (p above : PlainOrder) (profile : P) (key : PublicKey) (a : Algorithm) (b : CertificateState P) → IsReady role p → IsProfile subject_name issuer_name extensions refuses role p above profile → key ≡ above.key
    → b ≡ record { profile = profile; fields = fields_below (issuer_name profile p.subject) p; added = names_for role p; finalized = None } → part_for extensions b key a ≡ ordered_part role p above a
profile_part subject_name issuer_name extensions refuses role p above profile key a b r h k e =
    let f = fields_below (issuer_name profile p.subject) p in
    ap (λ (s : CertificateState _). part_for extensions s key a) e
    ∙ ap (λ (x : PublicKey). written_part (signed_part f a (names_for role p ++ extensions profile p.key x (bare_part f a)))) k
    ∙ ordered_written role p above a (issuer_name profile p.subject) (names_for role p ++ extensions profile p.key above.key (bare_part f a)) r h.issuer (h.adds (bare_part f a))

-- A serial number of at most 20 bytes is in the range of the profile.
valid_short : (t : Tbs) → length (integer_octets t.1.0) ≤ 20 → IsValid (tbs_certificate Bound None) t → IsValid (tbs_certificate Bound (Some 21)) t
unfolding IsValid IsContent IsBody octets_of contents body_octets
valid_short t h v = ((v.0.0, ((omega (arith, h), v.0.1.0.1, v.0.1.0.2), v.0.1.1)), v.1, v.2)

whole_raw : (c : PlainCertificate) → IsValid (certificate Bound (Some 21)) c → IsValid (raw_certificate Bound) c
unfolding IsValid IsContent IsBody octets_of contents body_octets
whole_raw c v = ((((v.0.0.0.0, ((tt, v.0.0.0.1.0.1, v.0.0.0.1.0.2), v.0.0.0.1.1)), v.0.0.1, v.0.0.2), v.0.1), v.1, v.2)

whole_short : (c : PlainCertificate) → length (integer_octets (tbs c).1.0) ≤ 20 → IsValid (raw_certificate Bound) c → IsValid (certificate Bound (Some 21)) c
unfolding IsValid IsContent IsBody octets_of contents body_octets
whole_short c h v = ((((v.0.0.0.0, ((omega (arith, h), v.0.0.0.1.0.1, v.0.0.0.1.0.2), v.0.0.0.1.1)), v.0.0.1, v.0.0.2), v.0.1), v.1, v.2)

same_octets : (c : PlainCertificate) → octets_of (certificate Bound (Some 21)) c ≡ certificate_octets Bound c
unfolding octets_of contents body_octets
same_octets c = refl

-- The values around a TBSCertificate that has an encoding are in range.
whole_in_range : (c : PlainCertificate) → length (integer_octets (tbs c).1.0) ≤ 20 → IsValid part_shape (tbs c) → IsInRange (algorithm_identifier Bound) (outer_algorithm c) → IsInRange bit_string (signature_bits c)
    → IsInRange (certificate Bound (Some 21)) c
whole_in_range c h v algorithm bits = ((valid_in_range (tbs_certificate Bound (Some 21)) (tbs c) (valid_short (tbs c) h v), (algorithm, (bits, tt))), omega arith)

-- The certificate that a builder makes of this TBSCertificate, and its encoding.
module _ (a : Algorithm) (signs : List ℕ → Bits → Type 0) (c : PlainCertificate) (t : Tbs) (part : tbs c ≡ t) (short : length (integer_octets t.1.0) ≤ 20) where
  short_there : length (integer_octets (tbs c).1.0) ≤ 20
  short_there = subst (λ (u : Tbs). length (integer_octets u.1.0) ≤ 20) (sym part) short

  pub made_of : (w : List ℕ) → outer_algorithm c ≡ a → signs (part_octets (tbs c)) (signature_bits c) → IsValid part_shape t → IsInRange (algorithm_identifier Bound) (outer_algorithm c) → IsInRange bit_string (signature_bits c)
      → w ≡ octets_of (certificate Bound (Some 21)) c → (IsInRange (certificate Bound (Some 21)) c → IsValid (certificate Bound (Some 21)) c) → IsMadeOf t a signs c w
  made_of w by given v algorithm bits written valid =
      let here = subst (λ (u : Tbs). IsValid part_shape u) (sym part) v in
      record {
        part = part;
        algorithm = by;
        signed = subst (λ (u : Tbs). signs (part_octets u) (signature_bits c)) part given;
        octets_are = written ∙ same_octets c;
        valid = whole_raw c (valid (whole_in_range c short_there here algorithm bits));
      }

  -- A certificate can't be encoded only because memory runs out or a length is too large.
  pub unwritten : (may_refuse : List ℕ → Type 0) (role : Role) (dns : List (List ℕ)) (w : List ℕ) (k : ErrorKind) → outer_algorithm c ≡ a → signs (part_octets (tbs c)) (signature_bits c) → IsInRange bit_string (signature_bits c)
      → (IsValid (certificate Bound (Some 21)) c → k ≢ kinds.OutOfMemory → Ok w ≡ Err k) → Stops may_refuse signs a role dns t (stop_of_kind k)
  unwritten may_refuse role dns w kinds.OutOfMemory by given bits h = tt
  unwritten may_refuse role dns w _ by given bits h =
      let P : Tbs → Algorithm → Type 0 = λ u b. (bits : Bits) × IsBits bits × signs (part_octets u) bits × (IsValid (certificate Bound None) (u, (b, (bits, tt))) → ⊥) in
      let here : P (tbs c) (outer_algorithm c) = (signature_bits c, bits.0, given, λ v. (let e = h (whole_short c short_there v) (λ q. absurd cc) in absurd cc)) in
      inr (subst (λ (b : Algorithm). P t b) by (subst (λ (u : Tbs). P u (outer_algorithm c)) part here))

-- If memory runs out, that is reported.
pub memory_stops : (e : BuilderError) → IsWantOfMemory e → stop_of e ≡ stops.OutOfMemory
memory_stops (builders.Asn1 e) h = ap stop_of_kind h
memory_stops _ h = absurd h

-- The reason why a builder returns no certificate.
module _ (may_refuse : List ℕ → Type 0) (signs : List ℕ → Bits → Type 0) (a : Algorithm) (role : Role) (dns : List (List ℕ)) (t : Tbs) (short : length (integer_octets t.1.0) ≤ 20) where
  unwritten_part : (k : ErrorKind) → HasNoEncoding (tbs_certificate Bound (Some 21)) t k → Stops may_refuse signs a role dns t (stop_of_kind k)
  unwritten_part kinds.OutOfMemory h = tt
  unwritten_part _ h = inl (λ (part : HasPart role dns t). h.invalid (valid_short t short part.1))

  unwritten_by : (e : BuilderError) → IsUnwritten (tbs_certificate Bound (Some 21)) t e → Stops may_refuse signs a role dns t (stop_of e)
  unwritten_by (builders.Asn1 e) h = unwritten_part e.kind h
  unwritten_by _ h = absurd h

  unsigned_by : (e : BuilderError) → IsUnsigned (may_refuse (part_octets t)) e → Stops may_refuse signs a role dns t (stop_of e)
  unsigned_by (builders.Signature signers.Refused) h = h refl
  unsigned_by (builders.Signature signers.OutOfMemory) h = tt
  unsigned_by _ h = absurd h

  pub not_built : (e : BuilderError) (R : Type 0) → (R → ⊥) → IsWantOfMemory e ⊎ ((R ⊎ IsUnwritten (tbs_certificate Bound (Some 21)) t e) ⊎ IsUnsigned (may_refuse (part_octets t)) e)
      → Stops may_refuse signs a role dns t (stop_of e)
  not_built e R never (inl memory) = subst (λ (s : Stop). Stops may_refuse signs a role dns t s) (sym (memory_stops e memory)) tt
  not_built e R never (inr (inl (inl refuses))) = absurd (never refuses)
  not_built e R never (inr (inl (inr none))) = unwritten_by e none
  not_built e R never (inr (inr unsigned)) = unsigned_by e unsigned
