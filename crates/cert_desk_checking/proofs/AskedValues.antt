-- Each part of a question about a chain has an encoding: the key, the algorithm and the signature;
-- and the signed bytes are bytes.
use Rattle.std.proofs.Common.{◌≡◌, ℕ, zero, suc, ◌+◌, List, [], ◌∷◌, length, map, Bool, true, false, cond, Option, Some, None, Ok, Err, inl, inr, slice_get, refl, ap, subst, sym, ◌∙◌}
use Rattle.std.specs.List.{AllByRecursion}
use Rattle.std.specs.Option.{option_map_or}
use Rattle.x509_cert_anchors.specs.Oid.Bound.{Bound}
use Rattle.x509_cert_anchors.specs.Der.Octets.{IsOctets}
use Rattle.x509_cert_anchors.specs.Der.Shapes.{IsValid, IsContent, IsBody, octets_of}
use Rattle.x509_cert_anchors.proofs.Der.OneEncoding.{octets_below}
use Rattle.x509_cert_anchors.proofs.Der.BoundLaws.{both_all}
use Rattle.x509_cert_anchors.specs.CertCertificates.Certificates.{PlainCertificate, raw_certificate}
use Rattle.x509_cert_anchors.specs.CertCertificates.Certificates.{raw_tbs_certificate, subject, tbs}
use Rattle.x509_cert_anchors.specs.CertCertificates.Certificates.{tbs_public_key, tbs_subject, public_key}
use Rattle.x509_cert_anchors.specs.CertCertificates.Certificates.{signature_bits}
use Rattle.x509_cert_anchors.specs.Anchors.{PlainControls, PlainAnchor as PlainChoice}
use Rattle.x509_cert_anchors.specs.CertParts.Grammar.{PublicKey, algorithm_identifier, bit_string}
use Rattle.x509_cert_anchors.specs.CertParts.Grammar.{public_key_info}
use Rattle.cert_desk_checking.specs.declared.anchor_error.AnchorError.{AnchorError}
use Rattle.cert_desk_checking.specs.declared.anchor_error.AnchorError.TheVariants as errors
use Rattle.cert_desk_checking.specs.AnchorFiles.{IsAnchorFile, raw_choice}
use Rattle.cert_desk_checking.specs.Anchors.{controls_name, given_by, given_by_key, has_only_name, info_controls, info_key}
use Rattle.cert_desk_rules.specs.DeskBundle.Chains.{Chain}
use Rattle.cert_desk_rules.specs.Judging.{PlainAnchor, is_named, signed_part}
use Rattle.cert_desk_checking.specs.QuestionLines.{QuestionLine, anchor_lines, chain_lines, lines_at, lines_below, lines_of}
use Rattle.cert_desk_rules.specs.Questions.{Question, question}
use Rattle.cert_desk_checking.proofs.Encodings.{Stands-at, signed_part-is, valid_algorithms}

pub record IsWritable (q : Question) : Type 0 where
  pub key : IsValid (public_key_info Bound) q.key
  pub algorithm : IsValid (algorithm_identifier Bound) q.algorithm
  pub signed : IsOctets q.signed
  pub bits : IsValid bit_string q.bits

-- The trust anchor's key has an encoding.
abbrev pub HasKey : PlainAnchor → Type 0
HasKey a = IsValid (public_key_info Bound) a.key

-- The parts of a certificate.

valid_key : (c : PlainCertificate) → IsValid (raw_certificate Bound) c → IsValid (public_key_info Bound) (public_key c)
unfolding IsValid IsContent IsBody
valid_key c h = h.0.0.0.1.1.1.1.1.1.0

valid_bits : (c : PlainCertificate) → IsValid (raw_certificate Bound) c → IsValid bit_string (signature_bits c)
unfolding IsValid IsContent IsBody
valid_bits c h = h.0.1.1.0

valid_signed : (c : PlainCertificate) → IsValid (raw_certificate Bound) c → IsValid (raw_tbs_certificate Bound) (tbs c)
unfolding IsValid IsContent IsBody
valid_signed c h = h.0.0

-- The questions about the certificates of a chain.
module _ (anchors : List PlainAnchor) (limit : ℕ) (cs : List PlainCertificate) (stream : List ℕ) (keys : AllByRecursion HasKey anchors) (chain : Chain Bound limit cs stream) where
  at : (place : ℕ) (c : PlainCertificate) → slice_get cs place ≡ Some c → IsValid (raw_certificate Bound) c
  at place c e = (Stands-at Bound limit cs place c chain.each e).valid

  asked : (place : ℕ) (c : PlainCertificate) (key : PublicKey) → slice_get cs place ≡ Some c → IsValid (public_key_info Bound) key → IsWritable (question Bound cs stream place c key)
  asked place c key e valid =
      let this = at place c e in
      let signed : signed_part Bound cs stream place c ≡ octets_of (raw_tbs_certificate Bound) (tbs c) =
      ap (λ w. signed_part Bound cs w place c) chain.joins ∙ signed_part-is Bound cs place c e in
      record {
        key = valid;
        algorithm = (valid_algorithms Bound c this).1;
        signed = subst IsOctets (sym signed) (octets_below (raw_tbs_certificate Bound) (tbs c) (valid_signed c this));
        bits = valid_bits c this;
      }

  abbrev Written : QuestionLine → Type 0
  Written l = IsWritable l.question

  where_named : (b : Bool) (l : QuestionLine) (more : List QuestionLine) → Written l → AllByRecursion Written more → AllByRecursion Written (cond b (l ∷ more) more)
  where_named true l more h hs = (h, hs)
  where_named false l more h hs = hs

  of_anchors : (c : PlainCertificate) (number : ℕ) (some : List PlainAnchor) → slice_get cs 0 ≡ Some c → AllByRecursion HasKey some → AllByRecursion Written (anchor_lines cs stream c number some)
  of_anchors c number [] e valid = tt
  of_anchors c number (a ∷ more) e valid =
      where_named (is_named Bound c a) (record { place = 0; anchor = Some number; question = question Bound cs stream 0 c a.key })
      (anchor_lines cs stream c (number + 1) more) (asked 0 c a.key e valid.0) (of_anchors c (number + 1) more e valid.1)

  of_later : (before : ℕ) (c : PlainCertificate) (o : Option PlainCertificate) → slice_get cs (suc before) ≡ Some c → slice_get cs before ≡ o
      → AllByRecursion Written (option_map_or (λ b. record { place = suc before; anchor = None; question = question Bound cs stream (suc before) c (public_key b) } ∷ []) o [])
  of_later before c None e is = tt
  of_later before c (Some b) e is = (asked (suc before) c (public_key b) e (valid_key b (at before b is)), tt)

  of_place : (place : ℕ) (c : PlainCertificate) → slice_get cs place ≡ Some c → AllByRecursion Written (lines_of anchors cs stream place c)
  of_place zero c e = of_anchors c 0 anchors e keys
  of_place (suc before) c e = of_later before c (slice_get cs before) e refl

  of_any : (place : ℕ) (o : Option PlainCertificate) → slice_get cs place ≡ o → AllByRecursion Written (option_map_or (lines_of anchors cs stream place) o [])
  of_any place None e = tt
  of_any place (Some c) e = of_place place c e

  below : (n : ℕ) → AllByRecursion Written (lines_below anchors cs stream n)
  below zero = tt
  below (suc n) = both_all Written (lines_below anchors cs stream n) (lines_at anchors cs stream n) (below n) (of_any n (slice_get cs n) refl)

  pub lines_writable : AllByRecursion (λ l. IsWritable l.question) (chain_lines anchors cs stream)
  lines_writable = below (length cs)

-- The keys of the trust anchors of a file.

one_of : (b : Bool) (x a : PlainAnchor) (e : AnchorError) → cond b (Ok x) (Err e) ≡ Ok a → x ≡ a
one_of true x a e h = cc
one_of false x a e h = absurd cc

by_key : (key : PublicKey) (o : Option PlainControls) (a : PlainAnchor) → given_by_key key o ≡ Ok a → key ≡ a.key
by_key key None a h = absurd cc
by_key key (Some p) a h = ap (λ (x : PlainAnchor). x.key) (one_of (has_only_name p) (record { name = controls_name p; key = key }) a errors.PathControls h)

given_key : (v : PlainChoice) (a : PlainAnchor) → IsValid raw_choice v → given_by v ≡ Ok a → HasKey a
unfolding IsValid IsContent IsBody
given_key (inl c) a h e =
    let same : public_key c ≡ a.key = ap (λ (x : PlainAnchor). x.key) (one_of true (record { name = subject c; key = public_key c }) a errors.NoName e) in
    subst (λ k. IsValid (public_key_info Bound) k) same h.0.0.0.1.1.1.1.1.1.0
given_key (inr (inl t)) a h e =
    let same : tbs_public_key t ≡ a.key = ap (λ (x : PlainAnchor). x.key) (one_of true (record { name = tbs_subject t; key = tbs_public_key t }) a errors.NoName e) in
    subst (λ k. IsValid (public_key_info Bound) k) same h.0.0.1.1.1.1.1.1.0
given_key (inr (inr i)) a h e = subst (λ k. IsValid (public_key_info Bound) k) (by_key (info_key i) (info_controls i) a e) h.0.0.1.0

given_keys : (vs : List PlainChoice) (xs : List PlainAnchor) → AllByRecursion (IsValid raw_choice) vs → map given_by vs ≡ map (λ x. Ok x) xs → AllByRecursion HasKey xs
given_keys [] [] each e = tt
given_keys [] (x ∷ xs) each e = absurd cc
given_keys (v ∷ vs) [] each e = absurd cc
given_keys (v ∷ vs) (x ∷ xs) each e =
    let first : given_by v ≡ Ok x = cc in
    let others : map given_by vs ≡ map (λ x. Ok x) xs = cc in
    (given_key v x each.0 first, given_keys vs xs each.1 others)

pub file_keys : (file : List ℕ) (anchors : List PlainAnchor) → IsAnchorFile file anchors → AllByRecursion HasKey anchors
file_keys file anchors is = given_keys is.values anchors is.give.each is.give.given
