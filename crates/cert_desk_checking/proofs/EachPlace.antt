-- Laws about the results for each certificate, the verdict, and the number of questions.
use Rattle.std.proofs.Common.{◌≡◌, ℕ, zero, suc, ◌+◌, ◌<◌, ◌≤◌, List, [], ◌∷◌, ◌++◌, length, true, false, Some, slice_get, inl, inr, length-append, refl, sym, ap, ◌∙◌, subst, arith}
use Rattle.std.specs.Option.{option_map_or}
use Rattle.std.proofs.lemmas.Bool.{both_ways, cases_lt, cases_order}
use Rattle.std.proofs.lemmas.Option.{slice_get_past}
use Rattle.x509_cert_anchors.specs.CertCertificates.Certificates.{PlainCertificate}
use Rattle.cert_desk_rules.specs.declared.checked.Verdict.TheVariants as verdicts
use Rattle.cert_desk_rules.specs.declared.kept_rules.KeptRules.{KeptRules}
use Rattle.cert_desk_rules.specs.declared.rule.Rule.{Rule}
use Rattle.cert_desk_rules.specs.Judging.{Terms, keeps, keeps_at}
use Rattle.cert_desk_rules.specs.KeptRules.{AreJudged, IsFirstBreach, kept_at, kept_by}
use Rattle.cert_desk_checking.specs.Laws.{RefusedAtFirstBreach, TrustedWithoutBreach}
use Rattle.cert_desk_rules.specs.Verdicts.{IsVerdict, Refused, Trusted, asked_signature}
use Rattle.cert_desk_checking.specs.Places.{Rises, asked_each}
use Rattle.cert_desk_checking.proofs.Counts.{Rises-more}
use Rattle.cert_desk_rules.proofs.DeskBundle.OneChain.{one_chain}
use Rattle.cert_desk_rules.proofs.RuleList.{first_broken, is_first}
use Rattle.cert_desk_checking.proofs.OneVerdict.{one_verdict}
use Rattle.cert_desk_checking.proofs.Outcomes.{kept_below-at, kept_below-from}

-- After the last certificate no rule is broken.
past : (judged : List KeptRules) (place : ℕ) (rule : Rule) → length judged ≤ place → kept_at judged place rule ≡ true
past judged place rule h = ap (λ o. option_map_or (λ k. kept_by k rule) o true) (slice_get_past judged place h)

within_at : (judged : List KeptRules) (place : ℕ) (rule : Rule) → kept_at judged place rule ≡ false → place < length judged
within_at judged place rule broken =
    elim (cases_lt place (length judged)) [
      | inl lt ↦ lt
      | inr ge ↦ absurd (both_ways _ broken (past judged place rule (omega (arith, ge))))
    ]

pub refused_at_first : RefusedAtFirstBreach
refused_at_first t limit cs stream judged verdict place rule chain says v = (there, back)
  where
    there : verdict ≡ verdicts.Refused place rule → IsFirstBreach judged place rule
    there e =
        let r : Refused t limit stream place rule = subst (IsVerdict t limit stream) e v in
        let same = one_chain t.bound limit r.certificates cs stream r.chain chain in
        let first = first_broken (λ x. keeps_at x t r.certificates stream place) rule r.first in (
          says.kept place rule ∙ subst (λ ds. keeps_at rule t ds stream place ≡ false) same first.0,
          λ other_place other before.
              says.kept other_place other ∙ subst (λ ds. keeps_at other t ds stream other_place ≡ true) same
              (elim before [
                | inl below ↦ kept_below-at t r.certificates stream place other_place r.kept below other
                | inr (at, less) ↦ subst (λ n. keeps_at other t r.certificates stream n ≡ true) (sym at) (first.1 other less)
              ]),
        )

    back : IsFirstBreach judged place rule → verdict ≡ verdicts.Refused place rule
    back first = one_verdict t limit stream verdict (verdicts.Refused place rule) v (record {
      certificates = cs;
      within = omega (arith, within_at judged place rule first.0, says.each);
      chain = chain;
      kept = kept_below-from t cs stream place (λ other_place below other. sym (says.kept other_place other) ∙ first.1 other_place other (inl below));
      first =
          is_first (λ x. keeps_at x t cs stream place) rule (sym (says.kept place rule) ∙ first.0)
          (λ other less. sym (says.kept place other) ∙ first.1 place other (inr (refl, less)));
    })

pub trusted_without : TrustedWithoutBreach
trusted_without t limit cs stream judged verdict chain says v = (there, back)
  where
    there : verdict ≡ verdicts.Trusted → (0 < length judged) × ((place : ℕ) (rule : Rule) → kept_at judged place rule ≡ true)
    there e =
        let k : Trusted t limit stream = subst (IsVerdict t limit stream) e v in
        let same = one_chain t.bound limit k.certificates cs stream k.chain chain in (
          omega (arith, k.some, says.each, ap (λ (ds : List PlainCertificate). length ds) same),
          λ place rule. elim (cases_lt place (length judged)) [
            | inl lt ↦ says.kept place rule ∙ subst (λ ds. keeps_at rule t ds stream place ≡ true) same
                (k.kept place rule (omega (arith, lt, says.each, ap (λ (ds : List PlainCertificate). length ds) same)))
            | inr ge ↦ past judged place rule (omega (arith, ge))
          ],
        )

    back : (0 < length judged) × ((place : ℕ) (rule : Rule) → kept_at judged place rule ≡ true) → verdict ≡ verdicts.Trusted
    back all = one_verdict t limit stream verdict verdicts.Trusted v (record {
      certificates = cs;
      some = omega (arith, all.0, says.each);
      chain = chain;
      kept = λ place rule within. sym (says.kept place rule) ∙ all.1 place rule;
    })

-- One more element at the end of a list.
get-before : {A : Type 0} (xs : List A) (x : A) (i : ℕ) → i < length xs → slice_get (xs ++ x ∷ []) i ≡ slice_get xs i
get-before [] x i lt = absurd (omega (arith, lt))
get-before (y ∷ xs) x zero lt = refl
get-before (y ∷ xs) x (suc i) lt = get-before xs x i (omega (arith, lt))

get-last : {A : Type 0} (xs : List A) (x : A) → slice_get (xs ++ x ∷ []) (length xs) ≡ Some x
get-last [] x = refl
get-last (y ∷ xs) x = get-last xs x

-- The results for the first n certificates are correct.
abbrev pub SaysBefore : Terms → List PlainCertificate → List ℕ → List KeptRules → ℕ → Type 0
SaysBefore t cs stream judged n = (length judged ≡ n) × ((place : ℕ) (rule : Rule) → place < n → kept_at judged place rule ≡ keeps_at rule t cs stream place)

module _ (t : Terms) (cs : List PlainCertificate) (stream : List ℕ) (judged : List KeptRules) (n : ℕ) where
  pub says-more : (k : KeptRules) → ((rule : Rule) → kept_by k rule ≡ keeps_at rule t cs stream n) → SaysBefore t cs stream judged n → SaysBefore t cs stream (judged ++ k ∷ []) (n + 1)
  says-more k here before = (
    omega (arith, before.0, length-append judged (k ∷ [])),
    λ place rule lt. elim (cases_order place n) [
      | inl e ↦
          subst (λ m. kept_at (judged ++ k ∷ []) m rule ≡ keeps_at rule t cs stream m) (sym e)
          (ap (λ m. kept_at (judged ++ k ∷ []) m rule) (sym before.0) ∙ ap (λ o. option_map_or (λ x. kept_by x rule) o true) (get-last judged k) ∙ here rule)
      | inr (inl below) ↦
          ap (λ o. option_map_or (λ x. kept_by x rule) o true) (get-before judged k place (omega (arith, below, before.0))) ∙ before.1 place rule below
      | inr (inr above) ↦ absurd (omega (arith, lt, above))
    ],
  )

  pub all_said : n ≡ length cs → SaysBefore t cs stream judged n → AreJudged t cs stream judged
  all_said end says = record {
    each = says.0 ∙ end;
    kept = λ place rule. elim (cases_lt place n) [
      | inl lt ↦ says.1 place rule lt
      | inr ge ↦
          past judged place rule (omega (arith, ge, says.0))
          ∙ sym (ap (λ o. option_map_or (keeps rule t cs stream place) o true) (slice_get_past cs place (omega (arith, ge, end))))
    ];
  }

-- The verifier is asked about one more certificate.
each_more : (t : Terms) (cs : List PlainCertificate) (stream : List ℕ) (place : ℕ) → asked_each t cs stream place + asked_signature t cs stream place ≡ asked_each t cs stream (suc place)
each_more t cs stream zero = omega arith
each_more t cs stream (suc before) = omega arith

pub counted-more : (t : Terms) (cs : List PlainCertificate) (stream : List ℕ) (place q c r d u v : ℕ) → Rises (asked_each t cs stream place) q c r d → Rises (asked_signature t cs stream place) r d u v
    → Rises (asked_each t cs stream (place + 1)) q c u v
counted-more t cs stream place q c r d u v before this =
    let next : suc place ≡ place + 1 = omega arith in
    Rises-more _ _ _ _ _ _ _ _ _ (each_more t cs stream place ∙ ap (asked_each t cs stream) next) before this
