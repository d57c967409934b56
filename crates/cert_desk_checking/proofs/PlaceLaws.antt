-- Laws about the rules for one certificate of a chain.
use Rattle.std.specs.Prelude.{◌==◌}
use Rattle.std.proofs.Common.{◌≡◌, ℕ, zero, suc, ◌+◌, ◌<◌, List, length, map, Bool, true, false, IsTrue, Option, Some, IfSome, slice_get, refl, sym, ap, ◌∙◌, subst}
use Rattle.std.specs.List.{list_any}
use Rattle.std.specs.Option.{option_map_or}
use Rattle.std.proofs.lemmas.Bool.{false_from_ne_true, both_ways}
use Rattle.std.proofs.lemmas.Bool.Decides.{same_from_decides}
use Rattle.std.proofs.lemmas.Slice.Eq.{bytes_eq-Decides}
use Rattle.x509_cert_anchors.specs.Oid.Bound.{Bound}
use Rattle.x509_cert_anchors.specs.Der.Shapes.{octets_of, IsValid}
use Rattle.x509_cert_anchors.specs.CertCertificates.Certificates.{PlainCertificate, raw_certificate}
use Rattle.x509_cert_anchors.specs.CertCertificates.Certificates.{inner_algorithm, outer_algorithm, issuer}
use Rattle.x509_cert_anchors.specs.CertCertificates.Certificates.{subject, public_key}
use Rattle.x509_cert_anchors.specs.CertParts.Grammar.{algorithm_identifier}
use Rattle.x509_cert_anchors.specs.CertCertificates.Views.{certificate_plain}
use Rattle.cert_desk_checking.specs.declared.anchor.Anchor.{Anchor}
use Rattle.cert_desk_rules.specs.DeskBundle.declared.entry.Entry.{Entry}
use Rattle.cert_desk_checking.specs.declared.issuer.Issuer.{Issuer}
use Rattle.cert_desk_checking.specs.declared.issuer.Issuer.TheVariants as issuers
use Rattle.cert_desk_rules.specs.declared.path_room.PathRoom.{PathRoom}
use Rattle.cert_desk_rules.specs.declared.rule.Rule.{Rule}
use Rattle.cert_desk_rules.specs.declared.rule.Rule.TheVariants as rules
use Rattle.cert_desk_checking.specs.Anchors.{anchor_plain, terms_of}
use Rattle.cert_desk_rules.specs.DeskBundle.Chains.{joined}
use Rattle.cert_desk_rules.specs.DeskBundle.Entries.{IsEntry}
use Rattle.cert_desk_rules.specs.Findings.{IsRoom}
use Rattle.cert_desk_rules.specs.Judging.{accepted, Answers, Terms, has_one_algorithm, keeps, keeps_at, number, may_ask, is_named, signed_part}
use Rattle.cert_desk_rules.specs.Paths.{same_name}
use Rattle.cert_desk_checking.specs.Places.{IsIssuer, Rises, StandsAt, asked_of, linked_to, signed_by, signs}
use Rattle.cert_desk_rules.specs.Verdicts.{asked_signature, asked_until}
use Rattle.cert_desk_checking.proofs.OneEncoding.{one_algorithm}
use Rattle.cert_desk_rules.proofs.RuleList.{test_of_all, all_of_tests, or_signature}
use Rattle.cert_desk_rules.proofs.Asking.{asked_anchors}
use Rattle.cert_desk_checking.proofs.Counts.{Rises-by}
use Rattle.cert_desk_checking.proofs.Encodings.{signed_part-is, valid_algorithms}

pub entry_at : (bound : ℕ) (cs : List PlainCertificate) (place : ℕ) (o : Option Entry) (e : Entry) → IfSome o (λ e. IsEntry bound cs place e) → o ≡ Some e → IsEntry bound cs place e
entry_at bound cs place o e h is = subst (λ o. IfSome o (λ e. IsEntry bound cs place e)) is h

pub keeps_at-is : (rule : Rule) (t : Terms) (cs : List PlainCertificate) (stream : List ℕ) (place : ℕ) (c : PlainCertificate) → slice_get cs place ≡ Some c
    → keeps_at rule t cs stream place ≡ keeps rule t cs stream place c
keeps_at-is rule t cs stream place c e = ap (λ o. option_map_or (keeps rule t cs stream place) o true) e

-- The checks against the possible issuers are those of the rules.
module _ (anchors : List Anchor) (moment : ℕ) (purpose : List ℕ) (answers : Answers) (cs : List PlainCertificate) (stream : List ℕ) (c : PlainCertificate) where
  abbrev terms : Terms
  terms = terms_of anchors moment purpose answers

  pub linked_at : (place : ℕ) (i : Issuer) → IsIssuer cs anchors place i → slice_get cs place ≡ Some c → linked_to Bound i c ≡ keeps_at rules.WrongIssuer terms cs stream place
  linked_at zero (issuers.Anchors those) h is =
      ap (λ (xs : List Anchor). list_any (is_named Bound c) (map anchor_plain xs)) h ∙ sym (keeps_at-is rules.WrongIssuer terms cs stream 0 c is)
  linked_at zero (issuers.Before b) h is = absurd h
  linked_at (suc n) (issuers.Anchors those) h is = absurd h
  linked_at (suc n) (issuers.Before b) h is =
      sym (keeps_at-is rules.WrongIssuer terms cs stream (suc n) c is ∙ ap (λ o. option_map_or (λ d. same_name Bound (issuer c) (subject d)) o false) h)

  pub signed_at : (place : ℕ) (i : Issuer) (signed : List ℕ) → IsIssuer cs anchors place i → slice_get cs place ≡ Some c → signed ≡ signed_part Bound cs stream place c
      → signed_by Bound answers signed c i ≡ keeps_at rules.WrongSignature terms cs stream place
  unfolding signs
  signed_at zero (issuers.Anchors those) signed h is e =
      ap (λ (xs : List Anchor). list_any (signs Bound answers signed c) (map anchor_plain xs)) h
      ∙ ap (λ (w : List ℕ). list_any (signs Bound answers w c) (map anchor_plain anchors)) e
      ∙ sym (keeps_at-is rules.WrongSignature terms cs stream 0 c is)
  signed_at zero (issuers.Before b) signed h is e = absurd h
  signed_at (suc n) (issuers.Anchors those) signed h is e = absurd h
  signed_at (suc n) (issuers.Before b) signed h is e =
      ap (λ (w : List ℕ). accepted answers w c (public_key (certificate_plain b.now))) e
      ∙ sym (keeps_at-is rules.WrongSignature terms cs stream (suc n) c is
      ∙ ap (λ o. option_map_or (λ d. accepted answers (signed_part Bound cs stream (suc n) c) c (public_key d)) o false) h)

  pub asked_at : (place : ℕ) (i : Issuer) (signed : List ℕ) → IsIssuer cs anchors place i → slice_get cs place ≡ Some c → signed ≡ signed_part Bound cs stream place c
      → asked_of Bound answers signed c i ≡ asked_signature terms cs stream place
  asked_at zero (issuers.Anchors those) signed h is e =
      ap (λ (xs : List Anchor). asked_until Bound answers signed c (map anchor_plain xs)) h
      ∙ ap (λ (w : List ℕ). asked_until Bound answers w c (map anchor_plain anchors)) e
      ∙ sym (ap (λ o. option_map_or (λ d. asked_anchors terms cs stream d (map anchor_plain anchors)) o 0) is)
  asked_at zero (issuers.Before b) signed h is e = absurd h
  asked_at (suc n) (issuers.Anchors those) signed h is e = absurd h
  asked_at (suc n) (issuers.Before b) signed h is e = refl

-- The answer about the signature at an index, and the number of questions, for a verifier with the
-- same answers.
pub signature_at : (anchors : List Anchor) (moment : ℕ) (purpose : List ℕ) (answers : Answers) (cs : List PlainCertificate) (place : ℕ) (e : Entry) (i : Issuer) (now : Answers) (said : Bool) (q k r l : ℕ)
    → IsEntry Bound cs place e → IsIssuer cs anchors place i → now ≡ answers
    → said ≡ signed_by Bound now e.signed.now (certificate_plain e.certificate.now) i → Rises (asked_of Bound now e.signed.now (certificate_plain e.certificate.now) i) q k r l
    → (keeps_at rules.WrongSignature (terms_of anchors moment purpose answers) cs (joined Bound cs) place ≡ said)
    × Rises (asked_signature (terms_of anchors moment purpose answers) cs (joined Bound cs) place) q k r l
signature_at anchors moment purpose answers cs place e i now said q k r l entry issuer same told rose =
    let s = joined Bound cs in
    let this = certificate_plain e.certificate.now in
    let octets = entry.signed ∙ sym (signed_part-is Bound cs place this entry.certificate) in (
      sym (signed_at anchors moment purpose answers cs s this place i e.signed.now issuer entry.certificate octets)
          ∙ ap (λ (a : Answers). signed_by Bound a e.signed.now this i) (sym same) ∙ sym told,
      Rises-by _ _ q k r l
          (ap (λ (a : Answers). asked_of Bound a e.signed.now this i) same ∙ asked_at anchors moment purpose answers cs s this place i e.signed.now issuer entry.certificate octets) rose,
    )

-- The facts that the check of a certificate needs.
pub stands : (cs : List PlainCertificate) (anchors : List Anchor) (place : ℕ) (e : Entry) (n : ℕ) (i : Issuer) (r : PathRoom) → IsEntry Bound cs place e → n ≡ length cs
    → IsIssuer cs anchors place i → IsRoom Bound cs place r → StandsAt cs anchors place (certificate_plain e.certificate.now) ((place + 1) == n) i r
stands cs anchors place e n i r entry long issuer room =
    record { certificate = entry.certificate; last_is = ap (λ m. (place + 1) == m) long; issuer = issuer; room = room }

-- Algorithms are equal exactly if their encodings are.
pub one_algorithm_by : (bound : ℕ) (r : Bool) (c : PlainCertificate) → IsValid (raw_certificate bound) c
    → (IsTrue r → octets_of (algorithm_identifier bound) (inner_algorithm c) ≡ octets_of (algorithm_identifier bound) (outer_algorithm c))
    → (inner_algorithm c ≡ outer_algorithm c → r ≡ true) → r ≡ has_one_algorithm bound c
one_algorithm_by bound r c h same differ =
    let valid = valid_algorithms bound c h in
    same_from_decides r (has_one_algorithm bound c) (same, λ e. differ (one_algorithm bound _ _ valid.0 valid.1 e)) (bytes_eq-Decides _ _)

-- A certificate that may be asked about keeps every rule before that of the signature.
pub may_ask-kept : (t : Terms) (cs : List PlainCertificate) (stream : List ℕ) (place : ℕ) → may_ask t cs stream place ≡ true
    → (rule : Rule) → number rule < number rules.WrongSignature → keeps_at rule t cs stream place ≡ true
may_ask-kept t cs stream place h rule lt = test_of_all (λ rule. keeps_at rule t cs stream place) h rule lt

pub may_ask-true : (t : Terms) (cs : List PlainCertificate) (stream : List ℕ) (place : ℕ) → ((rule : Rule) → number rule < number rules.WrongSignature → keeps_at rule t cs stream place ≡ true)
    → may_ask t cs stream place ≡ true
may_ask-true t cs stream place kept = all_of_tests (λ rule. keeps_at rule t cs stream place) kept

pub may_ask-false : (t : Terms) (cs : List PlainCertificate) (stream : List ℕ) (place : ℕ) (rule : Rule) → number rule < number rules.WrongSignature → keeps_at rule t cs stream place ≡ false
    → may_ask t cs stream place ≡ false
may_ask-false t cs stream place rule h broken =
    false_from_ne_true _ (λ e. both_ways _ broken (may_ask-kept t cs stream place e rule h))

-- The rules before that of the signature, and that of the signature.
pub all_kept : (t : Terms) (cs : List PlainCertificate) (stream : List ℕ) (place : ℕ) → ((rule : Rule) → number rule < number rules.WrongSignature → keeps_at rule t cs stream place ≡ true)
    → keeps_at rules.WrongSignature t cs stream place ≡ true → (rule : Rule) → keeps_at rule t cs stream place ≡ true
all_kept t cs stream place kept signed = or_signature (λ rule. keeps_at rule t cs stream place ≡ true) kept signed
