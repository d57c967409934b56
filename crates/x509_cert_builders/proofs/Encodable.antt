-- Lemmas for encoding: the values of the extensions that profiles add have encodings, and so has a
-- TBSCertificate that isn't too long.
use Rattle.std.proofs.Common.{◌≡◌, ◌+◌, ◌++◌, ℕ, ◌<◌, ◌≤◌, ◌%◌, List, [], ◌∷◌, Bool, true, false, Option, Some, None, length, refl, sym, subst, arith, rules, lt-ltb, ap, inl, inr, lit<, nat_lt, ltb-false, Ok, ◌∙◌}
use Rattle.std.specs.Prelude.{⊤, pos, reverse, if◌then◌else◌, bit_or}
use Rattle.std.specs.Int.{reverse_bits, w8}
use Rattle.std.proofs.lemmas.Bool.Decides.{nat_tests}
use Rattle.std.proofs.lemmas.List.{length-append, length-map, length-reverse}
use Rattle.x509_cert_certificates.specs.Oid.Bound.{Bound}
use Rattle.x509_cert_certificates.specs.Oid.IdentifierOctets.{IsIdentifier, identifier_octets, arc_octets, read_arcs, read_identifier, with_arc}
use Rattle.x509_cert_certificates.specs.Oid.Digits.{digits, digits_within, marked}
use Rattle.x509_cert_certificates.proofs.Der.HeadLaws.{length-digits-le}
use Rattle.x509_cert_certificates.specs.Der.TagTypes.Tag.{Tag}
use Rattle.x509_cert_certificates.specs.Der.TagTypes.Tag.TheVariants as tags
use Rattle.x509_cert_certificates.specs.Der.Grammar.{plain_option}
use Rattle.x509_cert_certificates.specs.Der.Heads.{Fits, tlv, head_octets, length_octets}
use Rattle.x509_cert_certificates.specs.Der.Integers.{integer_octets, positive}
use Rattle.x509_cert_certificates.specs.Der.Leaves.{named}
use Rattle.x509_cert_certificates.specs.Der.NamedBits.{named_octets, set_octets}
use Rattle.x509_cert_certificates.specs.Der.Octets.{IsOctets}
use Rattle.x509_cert_certificates.specs.Der.Shapes.{leaf, tagged, sequence, sequence_of, octets_of, contents, body_octets, IsValid, IsContent, IsBody, unless, explicit, defaulted}
use Rattle.x509_cert_certificates.specs.Der.Tags.{tag_octets, context}
use Rattle.sha1.specs.Sha1.{sha1, digest_bytes}
use Rattle.x509_cert_certificates.specs.CertParts.Grammar.{false_by_default, object_identifier, octet_string, number_of, Algorithm, PlainExtension, PlainTime, time, version}
use Rattle.x509_cert_extensions.specs.CertGeneralNames.GeneralNames.{authority_key_identifier_fields}
use Rattle.x509_cert_extensions.specs.PolicyTypes.Policies.{basic_constraints_fields}
use Rattle.x509_cert_builders.specs.Profiles.{id_kp, purposes, digital_signature, use_where}
use Rattle.x509_cert_certificates.specs.Der.Dates.{Civil, is_civil}
use Rattle.x509_cert_certificates.specs.Der.Ranges.{IsInRange}
use Rattle.x509_cert_certificates.specs.Certificates.{Tbs, tbs_certificate}
use Rattle.x509_cert_certificates.specs.CertParts.Views.{algorithm_plain, extensions_plain}
use Rattle.x509_cert_certificates.specs.CertParts.Respelling.{respelled}
use Rattle.x509_cert_certificates.specs.Assembling.{PlainFields, has_any, signed_part, version_of}
use Rattle.x509_cert_builders.specs.SignedParts.{IsPartInRange, part_shape, written_part}
use Rattle.x509_cert_builders.specs.States.{finalized_plain}
use Rattle.x509_cert_builders.specs.declared.certificate_builder.Finalized.{Finalized}
use Rattle.std.specs.List.{AllByRecursion, flat_map}
use Rattle.x509_cert_certificates.proofs.Oid.EncodingLaws.{arc_octets-one}
use Rattle.x509_cert_certificates.proofs.Oid.IdentifierLaws.{read_arcs-arcs}
use Rattle.x509_cert_extensions.specs.NamedBits as bits

digest_length : (m : List ℕ) → length (sha1 m) ≡ 20
unfolding sha1 digest_bytes
digest_length m = refl

below : (n : ℕ) → n % 256 < 256
below n = omega arith

digest_octets : (m : List ℕ) → IsOctets (sha1 m)
unfolding sha1 digest_bytes
digest_octets m = (below _, (below _, (below _, (below _, (below _, (below _, (below _, (below _, (below _, (below _, (below _, (below _, (below _, (below _, (below _, (below _, (below _, (below _, (below _, (below _, tt))))))))))))))))))))

key_fits : (w : List ℕ) → IsOctets w → length w ≡ 20 → IsValid octet_string w
unfolding IsValid IsContent tlv head_octets length_octets tag_octets contents
key_fits w o e = (o, omega arith, rw e omega arith)

short_tlv : (t : Tag) (c : List ℕ) → length c < 128 → length (tlv t c) ≡ length (tag_octets t) + 1 + length c
unfolding tlv head_octets length_octets
short_tlv t c l =
    rw (lt-ltb (length c) 128 l) (omega (arith, length-append (tag_octets t) (length c ∷ []), length-append (tag_octets t ++ length c ∷ []) c))

-- A short content fits after its header.
small : (t : Tag) (c : List ℕ) → length (tag_octets t) ≤ 5 → length c < 128 → Fits (tlv t c)
small t c h l = omega (arith, h, l, short_tlv t c l)

authority_fits : (w : List ℕ) → IsOctets w → length w ≡ 20 → IsValid (sequence (authority_key_identifier_fields Bound)) (Some w, (None, (None, tt)))
unfolding IsValid IsContent IsBody contents body_octets octets_of tag_octets
authority_fits w o e =
    let key = tlv (context false 0) w in
    let long : length key ≡ 1 + 1 + length w = short_tlv (context false 0) w (omega (arith, e)) in (
      ((o, omega arith, omega (arith, long, e)), (tt, (tt, tt))),
      omega arith,
      small tags.Sequence (key ++ []) (omega arith) (omega (arith, length-append key [], long, e)),
    )

few_octets : (n : ℕ) → n < 512 → length (set_octets n) ≤ 4
unfolding set_octets
few_octets n h =
    let few = length-digits-le n (omega (arith, h)) in
    grind (arith, nat_tests, length-map (reverse (digits 256 n)) (reverse_bits w8), length-reverse (digits 256 n), few)

pub use_valid : (n : ℕ) → n < 512 → IsValid (tagged tags.BitString (leaf (named 9))) n
unfolding IsValid IsContent contents named_octets tag_octets
use_valid n h = (h, omega arith, small tags.BitString (named_octets n) (omega arith) (omega (arith, few_octets n h)))

short_positive : (w : List ℕ) → length (positive w) ≤ length w + 1
short_positive [] = omega arith
short_positive (d ∷ ds) = grind (arith, nat_tests)

number_short : (n : ℕ) → n < 256 → length (integer_octets (pos n)) ≤ 5
unfolding integer_octets
number_short n h = omega (arith, short_positive (digits 256 n), length-digits-le n (omega (arith, h)))

number_valid : (n : ℕ) → n < 256 → IsValid (number_of 8) (pos n)
unfolding IsValid IsContent contents tag_octets
number_valid n h = (h, omega arith, small tags.Integer (integer_octets (pos n)) (omega arith) (omega (arith, number_short n h)))

short_number : (n : ℕ) → n < 256 → length (octets_of (number_of 8) (pos n)) ≤ 8
unfolding octets_of contents tlv head_octets length_octets tag_octets
short_number n h =
    let few = number_short n h in
    rw (lt-ltb (length (integer_octets (pos n))) 128 (omega (arith, few))) (omega (arith, few))

short_fields : (ca : Bool) (path : List ℕ) → length path ≤ 8 → Fits (tlv tags.Sequence (octets_of false_by_default ca ++ (path ++ [])))
unfolding octets_of contents tlv head_octets length_octets tag_octets unless
short_fields true path h = small tags.Sequence (1 ∷ 1 ∷ 255 ∷ (path ++ [])) (omega arith) (omega (arith, length-append path [], h))
short_fields false path h = small tags.Sequence (path ++ []) (omega arith) (omega (arith, length-append path [], h))

bool_valid : (ca : Bool) → IsValid false_by_default ca
unfolding IsValid IsContent contents tlv head_octets length_octets tag_octets
bool_valid true = (tt, omega arith, omega arith)
bool_valid false = (tt, omega arith, omega arith)

-- The path length is below 256.
abbrev IsPath : Option ℕ → Type 0
IsPath None = ⊤
IsPath (Some n) = n < 256

pub constraints_valid : (ca : Bool) (path : Option ℕ) → IsPath path → IsValid (sequence basic_constraints_fields) (ca, (plain_option (λ n. pos n) path, tt))
unfolding IsValid IsContent IsBody contents body_octets octets_of
constraints_valid ca None h = ((bool_valid ca, (tt, tt)), omega arith, short_fields ca [] (omega arith))
constraints_valid ca (Some n) h = ((bool_valid ca, (number_valid n h, tt)), omega arith, short_fields ca (octets_of (number_of 8) (pos n)) (short_number n h))

purpose : (clients : Bool) → IsValid (object_identifier Bound) (id_kp (if clients then 2 else 1))
unfolding IsValid IsContent tlv head_octets length_octets tag_octets contents IsIdentifier identifier_octets arc_octets digits digits_within marked Bound
purpose true = search rules
purpose false = search rules

pub purposes_valid : (clients : Bool) → IsValid (sequence_of (object_identifier Bound)) (purposes clients)
unfolding IsValid IsContent IsBody tlv head_octets length_octets tag_octets contents body_octets octets_of identifier_octets arc_octets digits digits_within marked
purposes_valid true = ((purpose false, (purpose true, tt)), omega arith, omega arith)
purposes_valid false = ((purpose false, tt), omega arith, omega arith)

-- The bytes are a digest.
abbrev pub IsDigest : List ℕ → Type 0
IsDigest w = (m : List ℕ) × (w ≡ sha1 m)

-- Extensions that contain only a digest.
pub authority_valid : (w : List ℕ) → IsDigest w → IsValid (sequence (authority_key_identifier_fields Bound)) (Some w, (None, (None, tt)))
authority_valid w d =
    subst (λ v. IsValid (sequence (authority_key_identifier_fields Bound)) (Some v, (None, (None, tt)))) (sym d.1) (authority_fits (sha1 d.0) (digest_octets d.0) (digest_length d.0))

pub identifier_valid : (w : List ℕ) → IsDigest w → IsValid octet_string w
identifier_valid w d = subst (λ v. IsValid octet_string v) (sym d.1) (key_fits (sha1 d.0) (digest_octets d.0) (digest_length d.0))

pub is_digest : (m w : List ℕ) → w ≡ sha1 m → IsDigest w
is_digest m w e = (m, e)

-- TBSCertificates: their encoding, and the bytes at their position in a certificate.

-- The encoding doesn't depend on the limit for serial numbers.
pub raw_octets : (t : Tbs) → octets_of (tbs_certificate Bound (Some 21)) t ≡ octets_of part_shape t
unfolding octets_of body_octets contents
raw_octets t = refl

-- Assembling a certificate uses the part of the last `finalize`.
pub put_back : (o : Option Finalized) (f : PlainFields) (t : Tbs)
    → plain_option (λ l. signed_part f (algorithm_plain l.algorithm) (extensions_plain l.extensions.items)) o ≡ Some t
    → plain_option written_part (plain_option (finalized_plain f) o) ≡ Some (written_part t)
put_back None f t e = absurd cc
put_back (Some l) f t e =
    let whole : signed_part f (algorithm_plain l.algorithm) (extensions_plain l.extensions.items) ≡ t = cc in
    ap (λ (u : Tbs). Some (written_part u)) whole

-- The version is in range.
version_in_range : (third : Bool) → IsInRange (defaulted (explicit 0 version) (160 ∷ 3 ∷ 2 ∷ 1 ∷ 0 ∷ [])) (version_of third)
unfolding IsValid IsContent IsBody octets_of contents body_octets tlv head_octets length_octets tag_octets integer_octets digits digits_within
version_in_range true = ((((2, lit< tt, refl), omega arith), omega arith), λ _. (((2, lit< tt, refl), omega arith, lit< tt), omega arith, lit< tt))
version_in_range false = ((((0, lit< tt, refl), omega arith), omega arith), λ _. (((0, lit< tt, refl), omega arith, lit< tt), omega arith, lit< tt))

-- The dates are in range, also after they are re-encoded.
spelling_in_range : (c : Civil) (b : Bool) → nat_lt 2049 c.year ≡ b → is_civil c ≡ true → IsInRange time (if b then inr c else inl c)
spelling_in_range c true e h = (h, omega arith)
spelling_in_range c false e h = (record { civil = h; year = ltb-false 2049 c.year e }, omega arith)

respelled_in_range : (t : PlainTime) → IsInRange time t → IsInRange time (respelled t)
respelled_in_range (inl c) h = h
respelled_in_range (inr c) h = spelling_in_range c (nat_lt 2049 c.year) refl h.0

-- If the fields of a TBSCertificate are in range, they are in range after its dates are re-encoded.
written_in_range : (f : PlainFields) (a : Algorithm) (es : List PlainExtension) → IsPartInRange (signed_part f a es) → IsInRange part_shape (written_part (signed_part f a es))
written_in_range f a es h =
    let first = respelled_in_range f.validity.0 h.dates.0.0 in
    let last = respelled_in_range f.validity.1.0 h.dates.0.1.0 in (
      (
        version_in_range (has_any es),
        ((tt, omega arith), (h.algorithm, (h.issuer, (((first, (last, tt)), omega arith), (h.subject, (h.key, (tt, (tt, (h.extensions, tt))))))))),
      ),
      omega arith,
    )

-- So a TBSCertificate that was encoded has an encoding.
pub made_valid : (f : PlainFields) (a : Algorithm) (es : List PlainExtension) (t : Tbs) → t ≡ signed_part f a es → IsPartInRange t
    → (IsInRange part_shape (written_part t) → IsValid part_shape (written_part t)) → IsValid part_shape (written_part (signed_part f a es))
made_valid f a es t e h valid =
    let here : IsPartInRange (signed_part f a es) = subst IsPartInRange e h in
    subst (λ (u : Tbs). IsInRange part_shape (written_part u) → IsValid part_shape (written_part u)) e valid (written_in_range f a es here)

-- OIDs whose arcs have one byte each.

abbrev AreShort : List ℕ → Type 0
AreShort arcs = AllByRecursion (λ n. n < 128) arcs

short_octets : (arcs : List ℕ) → AreShort arcs → flat_map arc_octets arcs ≡ arcs
short_octets [] h = refl
short_octets (a ∷ arcs) h = ap (λ w. w ++ flat_map arc_octets arcs) (arc_octets-one a h.0) ∙ ap (λ w. a ∷ w) (short_octets arcs h.1)

within : (arcs : List ℕ) → AreShort arcs → AllByRecursion (λ n. n < Bound) arcs
unfolding Bound
within [] h = tt
within (a ∷ arcs) h = (omega (arith, h.0), within arcs h.1)

short_arcs : (arcs : List ℕ) → AreShort arcs → read_arcs Bound 0 arcs ≡ Ok arcs
short_arcs arcs h = ap (λ w. read_arcs Bound 0 w) (sym (short_octets arcs h)) ∙ read_arcs-arcs Bound arcs (within arcs h)

pub read_x500 : (m n : ℕ) → m < 128 → n < 128 → read_identifier Bound 39 (85 ∷ m ∷ n ∷ []) ≡ Ok (2 ∷ 5 ∷ m ∷ n ∷ [])
read_x500 m n g h = ap (λ r. with_arc 2 (with_arc 5 r)) (short_arcs (m ∷ n ∷ []) (g, (h, tt)))

-- The usages of a subscriber's key, one after another.

abbrev with_use : Bool → ℕ → ℕ → ℕ
with_use stands uses more = if stands then bit_or uses more else uses

pub joined_uses : (d k a : Bool) → with_use a (with_use k (with_use d 1 8) 4) 16 ≡ digital_signature + use_where d bits.data_encipherment + use_where k bits.key_encipherment + use_where a bits.key_agreement
joined_uses true true true = refl
joined_uses true true false = refl
joined_uses true false true = refl
joined_uses true false false = refl
joined_uses false true true = refl
joined_uses false true false = refl
joined_uses false false true = refl
joined_uses false false false = refl
