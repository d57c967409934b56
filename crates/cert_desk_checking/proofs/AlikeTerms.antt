-- Terms under which a chain keeps the same rules give the same verdict and the same number of
-- questions.
use Rattle.std.proofs.Common.{◌≡◌, ℕ, zero, suc, ◌+◌, List, [], ◌∷◌, length, Bool, ◌&&◌, cond, slice_get, refl, sym, ap, ◌∙◌}
use Rattle.std.specs.List.{list_all}
use Rattle.std.specs.Option.{option_map_or}
use Rattle.x509_cert_anchors.specs.CertCertificates.Certificates.{PlainCertificate}
use Rattle.cert_desk_rules.specs.declared.checked.Verdict.{Verdict}
use Rattle.cert_desk_rules.specs.declared.checked.Verdict.TheVariants as verdicts
use Rattle.cert_desk_rules.specs.DeskBundle.declared.fault_kind.FaultKind.{FaultKind}
use Rattle.cert_desk_rules.specs.declared.rule.Rule.{Rule}
use Rattle.cert_desk_rules.specs.declared.rule.Rule.TheVariants as rules
use Rattle.cert_desk_rules.specs.DeskBundle.Chains.{Chain}
use Rattle.cert_desk_rules.specs.Judging.{Terms, before_signature, in_order, keeps_at, may_ask}
use Rattle.cert_desk_rules.specs.Verdicts.{Faulty, IsVerdict, all_kept_below, asked, asked_below, asked_signature}
use Rattle.cert_desk_rules.proofs.Asking.{asked_anchors, keeps_all}
use Rattle.cert_desk_rules.proofs.RuleList.{find_same}

pub list_all-same : {A : Type 0} (test other : A → Bool) → ((x : A) → test x ≡ other x) → (xs : List A) → list_all test xs ≡ list_all other xs
list_all-same test other same [] = refl
list_all-same test other same (x ∷ xs) =
    ap (λ b. b && list_all test xs) (same x) ∙ ap (λ b. other x && b) (list_all-same test other same xs)

-- The number of trust anchors under whose keys the verifier is asked about the first certificate.
abbrev pub asked_of_first : Terms → List PlainCertificate → List ℕ → ℕ
asked_of_first t cs stream = option_map_or (λ c. asked_anchors t cs stream c t.anchors) (slice_get cs 0) 0

-- Each certificate keeps the same rules, and the verifier is asked under as many trust anchors
-- about the first one.
pub record Alike (t u : Terms) (cs : List PlainCertificate) (stream : List ℕ) : Type 0 where
  pub keep : (rule : Rule) (place : ℕ) → keeps_at rule t cs stream place ≡ keeps_at rule u cs stream place
  pub first : asked_of_first t cs stream ≡ asked_of_first u cs stream

module _ (t u : Terms) (cs : List PlainCertificate) (stream : List ℕ) (alike : Alike t u cs stream) where
  may_ask_alike : (place : ℕ) → may_ask t cs stream place ≡ may_ask u cs stream place
  may_ask_alike place =
      list_all-same (λ rule. keeps_at rule t cs stream place) (λ rule. keeps_at rule u cs stream place) (λ rule. alike.keep rule place) before_signature

  all_alike : (place : ℕ) → keeps_all t cs stream place ≡ keeps_all u cs stream place
  all_alike place =
      ap (λ b. b && keeps_at rules.WrongSignature t cs stream place) (may_ask_alike place)
      ∙ ap (λ b. may_ask u cs stream place && b) (alike.keep rules.WrongSignature place)

  below_alike : (place : ℕ) → all_kept_below t cs stream place ≡ all_kept_below u cs stream place
  below_alike zero = refl
  below_alike (suc place) =
      ap (λ b. b && keeps_all t cs stream place) (below_alike place) ∙ ap (λ b. all_kept_below u cs stream place && b) (all_alike place)

  signature_alike : (place : ℕ) → asked_signature t cs stream place ≡ asked_signature u cs stream place
  signature_alike zero = alike.first
  signature_alike (suc place) = refl

  pub asked_below_alike : (place : ℕ) → asked_below t cs stream place ≡ asked_below u cs stream place
  asked_below_alike zero = refl
  asked_below_alike (suc place) =
      ap (λ n. n + cond (all_kept_below t cs stream place && may_ask t cs stream place) (asked_signature t cs stream place) 0) (asked_below_alike place)
      ∙ ap (λ b. asked_below u cs stream place + cond (b && may_ask t cs stream place) (asked_signature t cs stream place) 0) (below_alike place)
      ∙ ap (λ b. asked_below u cs stream place + cond (all_kept_below u cs stream place && b) (asked_signature t cs stream place) 0) (may_ask_alike place)
      ∙ ap (λ n. asked_below u cs stream place + cond (all_kept_below u cs stream place && may_ask u cs stream place) n 0) (signature_alike place)

pub asked_alike : (t u : Terms) (cs : List PlainCertificate) (stream : List ℕ) → Alike t u cs stream → asked t cs stream ≡ asked u cs stream
unfolding asked
asked_alike t u cs stream alike = asked_below_alike t u cs stream alike (length cs)

module _ (t u : Terms) (limit : ℕ) (stream : List ℕ) (there : (cs : List PlainCertificate) → Chain t.bound limit cs stream → Chain u.bound limit cs stream)
    (alike : (cs : List PlainCertificate) → Chain t.bound limit cs stream → Alike t u cs stream) where
  pub verdict_alike : ((place offset : ℕ) (kind : FaultKind) → Faulty t limit stream place offset kind → Faulty u limit stream place offset kind)
      → (verdict : Verdict) → IsVerdict t limit stream verdict → IsVerdict u limit stream verdict
  verdict_alike faulty (verdicts.StreamFault place offset kind) v = faulty place offset kind v
  verdict_alike faulty verdicts.Empty v = v
  verdict_alike faulty verdicts.Trusted v = record {
    certificates = v.certificates;
    some = v.some;
    chain = there v.certificates v.chain;
    kept = λ place rule lt. sym ((alike v.certificates v.chain).keep rule place) ∙ v.kept place rule lt;
  }
  verdict_alike faulty (verdicts.Refused place rule) v = record {
    certificates = v.certificates;
    within = v.within;
    chain = there v.certificates v.chain;
    kept = sym (below_alike t u v.certificates stream (alike v.certificates v.chain) place) ∙ v.kept;
    first =
        sym (find_same (λ other. keeps_at other t v.certificates stream place) (λ other. keeps_at other u v.certificates stream place) (λ other. (alike v.certificates v.chain).keep other place) in_order)
        ∙ v.first;
  }
