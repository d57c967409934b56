-- Verifiers with the same answers to all questions that a chain may ask give the same verdict.
use Rattle.std.proofs.Common.{◌≡◌, ℕ, zero, suc, ◌+◌, List, [], ◌∷◌, length, Bool, true, false, ◌&&◌, ◌||◌, cond, Option, Some, None, slice_get, refl, ap, ◌∙◌}
use Rattle.std.specs.List.{list_any, AllByRecursion}
use Rattle.std.specs.Option.{option_map_or}
use Rattle.x509_cert_anchors.specs.CertCertificates.Certificates.{PlainCertificate, public_key}
use Rattle.cert_desk_rules.specs.declared.checked.Verdict.{Verdict}
use Rattle.cert_desk_rules.specs.declared.rule.Rule.{Rule}
use Rattle.cert_desk_rules.specs.declared.rule.Rule.TheVariants as rules
use Rattle.cert_desk_rules.specs.DeskBundle.Chains.{Chain}
use Rattle.cert_desk_rules.specs.Judging.{Answers, Terms, PlainAnchor, is_named, is_signed, keeps}
use Rattle.cert_desk_rules.specs.Questions.{Question, question, anchor_questions, questions_of, answer_on, AnswerAlike, under}
use Rattle.cert_desk_rules.specs.Verdicts.{IsVerdict, Asks}
use Rattle.cert_desk_rules.proofs.Asking.{asked_anchors, says_yes}
use Rattle.cert_desk_checking.proofs.AlikeTerms.{Alike, asked_below_alike, verdict_alike}

-- A list that begins with a question only if a test passes.
listed_where : (P : Question → Type 0) (b : Bool) (q : Question) (rest : List Question) → AllByRecursion P (cond b (q ∷ rest) rest)
    → (b ≡ true → P q) × AllByRecursion P rest
listed_where P true q rest h = (λ e. h.0, h.1)
listed_where P false q rest h = (λ e. absurd cc, h)

same_where : (b x y : Bool) → (b ≡ true → x ≡ y) → ◌&&◌ b x ≡ ◌&&◌ b y
same_where true x y h = h refl
same_where false x y h = refl

asked_where : (b x y : Bool) (n m : ℕ) → (b ≡ true → x ≡ y) → n ≡ m → cond b (cond x 1 (1 + n)) n ≡ cond b (cond y 1 (1 + m)) m
asked_where true x y n m h e = ap (λ v. cond v 1 (1 + n)) (h refl) ∙ ap (λ k. cond y 1 (1 + k)) e
asked_where false x y n m h e = e

module _ (t : Terms) (other : Answers) (cs : List PlainCertificate) (stream : List ℕ) where
  abbrev Same : Question → Type 0
  Same q = answer_on t.answers q ≡ answer_on other q

  anchors_sign : (c : PlainCertificate) (anchors : List PlainAnchor) → AllByRecursion Same (anchor_questions t.bound cs stream c anchors)
      → list_any (λ a. is_named t.bound c a && says_yes t cs stream 0 c a.key) anchors
      ≡ list_any (λ a. is_named t.bound c a && says_yes (under t other) cs stream 0 c a.key) anchors
  anchors_sign c [] h = refl
  anchors_sign c (a ∷ more) h =
      let k = listed_where Same (is_named t.bound c a) (question t.bound cs stream 0 c a.key) (anchor_questions t.bound cs stream c more) h in
      let rest = anchors_sign c more k.1 in
      let first = same_where (is_named t.bound c a) (says_yes t cs stream 0 c a.key) (says_yes (under t other) cs stream 0 c a.key) k.0 in
      ap (λ b. b || list_any (λ a. is_named t.bound c a && says_yes t cs stream 0 c a.key) more) first
      ∙ ap (λ b. (is_named t.bound c a && says_yes (under t other) cs stream 0 c a.key) || b) rest

  anchors_asked : (c : PlainCertificate) (anchors : List PlainAnchor) → AllByRecursion Same (anchor_questions t.bound cs stream c anchors)
      → asked_anchors t cs stream c anchors ≡ asked_anchors (under t other) cs stream c anchors
  anchors_asked c [] h = refl
  anchors_asked c (a ∷ more) h =
      let k = listed_where Same (is_named t.bound c a) (question t.bound cs stream 0 c a.key) (anchor_questions t.bound cs stream c more) h in
      asked_where (is_named t.bound c a) (says_yes t cs stream 0 c a.key) (says_yes (under t other) cs stream 0 c a.key) _ _ k.0 (anchors_asked c more k.1)

  later_signs : (before : ℕ) (c : PlainCertificate) (o : Option PlainCertificate)
      → AllByRecursion Same (option_map_or (λ b. question t.bound cs stream (suc before) c (public_key b) ∷ []) o [])
      → option_map_or (λ b. says_yes t cs stream (suc before) c (public_key b)) o false
      ≡ option_map_or (λ b. says_yes (under t other) cs stream (suc before) c (public_key b)) o false
  later_signs before c None h = refl
  later_signs before c (Some b) h = h.0

  signs_alike : (place : ℕ) (c : PlainCertificate) → AllByRecursion Same (questions_of t.bound t.anchors cs stream place c)
      → is_signed t cs stream place c ≡ is_signed (under t other) cs stream place c
  signs_alike zero c h = anchors_sign c t.anchors h
  signs_alike (suc before) c h = later_signs before c (slice_get cs before) h

  keeps_alike : (rule : Rule) (place : ℕ) (c : PlainCertificate) → AllByRecursion Same (questions_of t.bound t.anchors cs stream place c)
      → keeps rule t cs stream place c ≡ keeps rule (under t other) cs stream place c
  keeps_alike rules.WrongIssuer zero c h = refl
  keeps_alike rules.WrongIssuer (suc before) c h = refl
  keeps_alike rules.WrongSignature place c h = signs_alike place c h
  keeps_alike _ place c h = refl

  kept_alike : (rule : Rule) (place : ℕ) (o : Option PlainCertificate) → AllByRecursion Same (option_map_or (questions_of t.bound t.anchors cs stream place) o [])
      → option_map_or (keeps rule t cs stream place) o true ≡ option_map_or (keeps rule (under t other) cs stream place) o true
  kept_alike rule place None h = refl
  kept_alike rule place (Some c) h = keeps_alike rule place c h

  first_asked : (o : Option PlainCertificate) → AllByRecursion Same (option_map_or (questions_of t.bound t.anchors cs stream 0) o [])
      → option_map_or (λ c. asked_anchors t cs stream c t.anchors) o 0 ≡ option_map_or (λ c. asked_anchors (under t other) cs stream c t.anchors) o 0
  first_asked None h = refl
  first_asked (Some c) h = anchors_asked c t.anchors h

  judge_alike : AnswerAlike t other cs stream → Alike t (under t other) cs stream
  judge_alike agree = record {
    keep = λ rule place. kept_alike rule place (slice_get cs place) (agree place);
    first = first_asked (slice_get cs 0) (agree 0);
  }

pub judged_alike : (t : Terms) (other : Answers) (limit : ℕ) (stream : List ℕ) (verdict : Verdict) (n : ℕ)
    → ((cs : List PlainCertificate) → Chain t.bound limit cs stream → AnswerAlike t other cs stream)
    → (IsVerdict t limit stream verdict → IsVerdict (under t other) limit stream verdict)
    × (Asks t limit stream n → Asks (under t other) limit stream n)
judged_alike t other limit stream verdict n agree =
    let alike : (cs : List PlainCertificate) → Chain t.bound limit cs stream → Alike t (under t other) cs stream = λ cs chain. judge_alike t other cs stream (agree cs chain) in (
      verdict_alike t (under t other) limit stream (λ cs chain. chain) alike
          (λ place offset kind v. record { certificates = v.certificates; found = v.found; place_is = v.place_is; offset_is = v.offset_is }) verdict,
      λ a. record { chain = λ cs chain. a.chain cs chain ∙ asked_below_alike t (under t other) cs stream (alike cs chain) (length cs); fault = a.fault },
    )
