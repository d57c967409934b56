-- From the check of each certificate to the verdict on the chain.
use Rattle.std.proofs.Common.{◌≡◌, ℕ, zero, suc, ◌+◌, ◌<◌, List, length, true, false, not, cond, ◌&&◌, Some, None, inl, inr, refl, sym, subst, arith}
use Rattle.std.specs.List.{find}
use Rattle.std.proofs.lemmas.Bool.{and_parts, and_from, and_left, and_right, both_ways, false_from_ne_true, cond-true, cond-false, cases_order}
use Rattle.x509_cert_anchors.specs.CertCertificates.Certificates.{PlainCertificate}
use Rattle.cert_desk_rules.specs.declared.rule.Rule.{Rule}
use Rattle.cert_desk_rules.specs.declared.rule.Rule.TheVariants as rules
use Rattle.cert_desk_rules.specs.DeskBundle.Chains.{Chain, joined}
use Rattle.cert_desk_rules.specs.Judging.{Terms, in_order, keeps_at, may_ask, number}
use Rattle.cert_desk_rules.proofs.Asking.{keeps_all}
use Rattle.cert_desk_rules.proofs.RuleList.{is_first}
use Rattle.cert_desk_rules.specs.Paths.{extensions_at}
use Rattle.cert_desk_rules.specs.Weighing.{may_take_memory}
use Rattle.cert_desk_rules.specs.Verdicts.{Trusted, Refused, StopsAsking, all_kept_below, asked, asked_below, asked_signature, raised}
use Rattle.cert_desk_checking.specs.Places.{IsFirstUnsigned}
use Rattle.cert_desk_checking.proofs.PlaceLaws.{may_ask-false, may_ask-kept, may_ask-true, all_kept}

-- All rules for one certificate.
pub keeps_all-kept : (t : Terms) (cs : List PlainCertificate) (stream : List ℕ) (place : ℕ) → keeps_all t cs stream place ≡ true
    → (rule : Rule) → keeps_at rule t cs stream place ≡ true
keeps_all-kept t cs stream place h =
    let both = and_parts (may_ask t cs stream place) (keeps_at rules.WrongSignature t cs stream place) h in
    all_kept t cs stream place (may_ask-kept t cs stream place both.0) both.1

pub keeps_all-false : (t : Terms) (cs : List PlainCertificate) (stream : List ℕ) (place : ℕ) (rule : Rule) → keeps_at rule t cs stream place ≡ false
    → keeps_all t cs stream place ≡ false
keeps_all-false t cs stream place rule broken = false_from_ne_true _ (λ e. both_ways _ broken (keeps_all-kept t cs stream place e rule))

-- The certificates before an index.
pub kept_below-at : (t : Terms) (cs : List PlainCertificate) (stream : List ℕ) (n k : ℕ) → all_kept_below t cs stream n ≡ true → k < n
    → (rule : Rule) → keeps_at rule t cs stream k ≡ true
kept_below-at t cs stream zero k h lt = absurd (omega arith)
kept_below-at t cs stream (suc n) k h lt =
    let both = and_parts (all_kept_below t cs stream n) (keeps_all t cs stream n) h in
    elim (cases_order k n) [
      | inl e ↦ subst (λ m. (rule : Rule) → keeps_at rule t cs stream m ≡ true) (sym e) (keeps_all-kept t cs stream n both.1)
      | inr (inl below) ↦ kept_below-at t cs stream n k both.0 below
      | inr (inr above) ↦ absurd (omega arith)
    ]

pub kept_below-from : (t : Terms) (cs : List PlainCertificate) (stream : List ℕ) (n : ℕ)
    → ((k : ℕ) → k < n → (rule : Rule) → keeps_at rule t cs stream k ≡ true) → all_kept_below t cs stream n ≡ true
kept_below-from t cs stream zero each = refl
kept_below-from t cs stream (suc n) each =
    and_from (all_kept_below t cs stream n) (keeps_all t cs stream n) (kept_below-from t cs stream n (λ k lt. each k (omega (arith, lt))))
    (and_from (may_ask t cs stream n) _ (may_ask-true t cs stream n (λ rule before. each n (omega arith) rule)) (each n (omega arith) rules.WrongSignature))

pub kept_below-more : (t : Terms) (cs : List PlainCertificate) (stream : List ℕ) (n : ℕ) → all_kept_below t cs stream n ≡ true
    → IsFirstUnsigned t cs stream n None → keeps_at rules.WrongSignature t cs stream n ≡ true → all_kept_below t cs stream (suc n) ≡ true
kept_below-more t cs stream n h kept signed = and_from _ (keeps_all t cs stream n) h (and_from (may_ask t cs stream n) _ (may_ask-true t cs stream n kept) signed)

-- The chain is rejected at the first certificate that breaks a rule.
pub refused_at : (t : Terms) (limit : ℕ) (cs : List PlainCertificate) (place : ℕ) (rule : Rule) (stream : List ℕ) → Chain t.bound limit cs stream
    → place < length cs → all_kept_below t cs (joined t.bound cs) place ≡ true → keeps_at rule t cs (joined t.bound cs) place ≡ false
    → ((other : Rule) → number other < number rule → keeps_at other t cs (joined t.bound cs) place ≡ true) → Refused t limit stream place rule
refused_at t limit cs place rule stream chain within kept broken first = record {
  certificates = cs;
  within = within;
  chain = chain;
  kept = subst (λ s. all_kept_below t cs s place ≡ true) (sym chain.joins) kept;
  first =
      subst (λ s. find (λ other. not (keeps_at other t cs s place)) in_order ≡ Some rule) (sym chain.joins)
      (is_first (λ other. keeps_at other t cs (joined t.bound cs) place) rule broken first);
}

-- The chain is trusted if every certificate keeps every rule.
pub trusted_by : (t : Terms) (limit : ℕ) (cs : List PlainCertificate) (stream : List ℕ) → Chain t.bound limit cs stream
    → 0 < length cs → all_kept_below t cs (joined t.bound cs) (length cs) ≡ true → Trusted t limit stream
trusted_by t limit cs stream chain some kept = record {
  certificates = cs;
  some = some;
  chain = chain;
  kept = λ place rule within.
      subst (λ s. keeps_at rule t cs s place ≡ true) (sym chain.joins) (kept_below-at t cs (joined t.bound cs) (length cs) place kept within rule);
}

-- Memory ran out at a certificate.
pub stops_at : (t : Terms) (limit : ℕ) (cs : List PlainCertificate) (place : ℕ) (stream : List ℕ) (old new : ℕ) → Chain t.bound limit cs stream
    → place < length cs → may_take_memory (extensions_at cs place) ≡ true → all_kept_below t cs (joined t.bound cs) place ≡ true → new ≡ raised old (asked_below t cs (joined t.bound cs) place) → StopsAsking t limit stream old new
stops_at t limit cs place stream old new chain within takes kept rose = record {
  certificates = cs;
  chain = chain;
  place = place;
  within = within;
  takes = takes;
  kept = subst (λ s. all_kept_below t cs s place ≡ true) (sym chain.joins) kept;
  questions = subst (λ s. new ≡ raised old (asked_below t cs s place)) (sym chain.joins) rose;
}

-- The questions, certificate by certificate.
module _ (t : Terms) (cs : List PlainCertificate) (stream : List ℕ) where
  pub asked-is : asked_below t cs stream (length cs) ≡ asked t cs stream
  unfolding asked
  asked-is = refl

  asked_step : (n : ℕ) → asked_below t cs stream (suc n) ≡ asked_below t cs stream n + cond (all_kept_below t cs stream n && may_ask t cs stream n) (asked_signature t cs stream n) 0
  asked_step n = refl

  -- If the certificate keeps the rules before that of the signature, the verifier is asked about
  -- it.
  pub asks_signature : (place : ℕ) → all_kept_below t cs stream place ≡ true → IsFirstUnsigned t cs stream place None
      → asked_below t cs stream place + asked_signature t cs stream place ≡ asked_below t cs stream (suc place)
  asks_signature place below kept =
      let may = and_from _ (may_ask t cs stream place) below (may_ask-true t cs stream place kept) in
      omega (arith, asked_step place, cond-true (all_kept_below t cs stream place && may_ask t cs stream place) (asked_signature t cs stream place) 0 may)

  -- The verifier isn't asked after a certificate that breaks a rule.
  asked_stays : (place n : ℕ) → all_kept_below t cs stream (suc place) ≡ false → place < n
      → (asked_below t cs stream n ≡ asked_below t cs stream (suc place)) × (all_kept_below t cs stream n ≡ false)
  asked_stays place zero broken lt = absurd (omega arith)
  asked_stays place (suc n) broken lt =
      elim (cases_order place n) [
        | inl e ↦ subst (λ m. (asked_below t cs stream (suc m) ≡ asked_below t cs stream (suc place)) × (all_kept_below t cs stream (suc m) ≡ false)) e (refl, broken)
        | inr (inl below) ↦
            (let before = asked_stays place n broken below in
            let none = cond-false _ (asked_signature t cs stream n) 0 (and_left _ (may_ask t cs stream n) before.1) in
            (omega (arith, before.0, none, asked_step n), and_left _ (keeps_all t cs stream n) before.1))
        | inr (inr above) ↦ absurd (omega arith)
      ]

  -- All questions, if the signature of a certificate is rejected.
  pub asked_signed : (place : ℕ) → place < length cs → keeps_at rules.WrongSignature t cs stream place ≡ false → asked_below t cs stream (suc place) ≡ asked t cs stream
  unfolding asked
  asked_signed place within broken =
      sym (asked_stays place (length cs) (and_right _ (keeps_all t cs stream place) (keeps_all-false t cs stream place rules.WrongSignature broken)) within).0

  -- All questions, if a rule before that of the signature is broken.
  pub asked_unsigned : (place : ℕ) (rule : Rule) → place < length cs → IsFirstUnsigned t cs stream place (Some rule) → asked_below t cs stream place ≡ asked t cs stream
  unfolding asked
  asked_unsigned place rule within broken =
      let none = cond-false _ (asked_signature t cs stream place) 0 (and_right (all_kept_below t cs stream place) _ (may_ask-false t cs stream place rule broken.0 broken.1)) in
      let stays = asked_stays place (length cs) (and_right _ (keeps_all t cs stream place) (keeps_all-false t cs stream place rule broken.1)) within in
      omega (arith, stays.0, none, asked_step place)
