-- The results of a call that validates a chain.
use Rattle.std.proofs.Common.{◌≡◌, ◌≤◌, ◌<◌, ◌^◌, ◌⊎◌, inl, inr, ℕ, List, [], length, Ok, refl, sym, ap, subst, ◌∙◌, arith}
use Rattle.cert_desk_listing.specs.DeskIo.declared.exit_status.ExitStatus.{ExitStatus}
use Rattle.cert_desk_listing.specs.DeskIo.declared.exit_status.ExitStatus.TheVariants as statuses
use Rattle.cert_desk_listing.specs.DeskIo.Statuses.{code_of}
use Rattle.cert_desk_answers.specs.DeskRules.Returned.{IsExact, IsExactWithMemory}
use Rattle.cert_desk_answers.proofs.DeskRules.Returning.{is_exact}
use Rattle.cert_desk_answers.specs.DeskBundle.declared.fault_kind.FaultKind.{FaultKind}
use Rattle.cert_desk_answers.specs.DeskRules.declared.rule.Rule.{Rule}
use Rattle.cert_desk_answers.specs.DeskRules.declared.checked.Verdict.{Verdict}
use Rattle.cert_desk_answers.specs.DeskRules.declared.checked.Verdict.TheVariants as verdicts
use Rattle.cert_desk_answers.specs.DeskRules.Answers.{only_yes_to}
use Rattle.cert_desk_answers.specs.DeskRules.Judging.{PlainAnchor, Terms, number}
use Rattle.cert_desk_answers.specs.DeskRules.Questions.{Question}
use Rattle.cert_desk_answers.specs.DeskRules.Verdicts.{Faulty, IsVerdict, Refused, Trusted}
use Rattle.cert_desk_answers.specs.DeskChecking.declared.anchor_fault.AnchorFault.{AnchorFault}
use Rattle.cert_desk_answers.specs.DeskChecking.AnchorFiles.{IsAnchorFile}
use Rattle.cert_desk_answers.specs.DeskChecking.Runs.{run_terms, status_of}
use Rattle.cert_desk_answers.proofs.DeskChecking.OneAnchorFile.{one_anchor_file}
use Rattle.cert_desk_answers.proofs.DeskChecking.OneVerdict.{one_verdict}
use Rattle.cert_desk_answers.specs.declared.line_fault.LineFault.{LineFault}
use Rattle.cert_desk_answers.specs.AnswerLines.{file_says}
use Rattle.cert_desk_answers.specs.Judged.{AreGiven, IsUnanswered, UnderGiven}
use Rattle.cert_desk_answers.proofs.Judged.{ok_is}
use Rattle.cert_desk_c.specs.Judged.{IsVerdictStatus, Tells, UnderArguments, UnderTerms}
use Rattle.cert_desk_c.specs.declared.numbers.WdPlace.{WdPlace}
use Rattle.cert_desk_c.proofs.Told.{one_identifier}

-- Bytes are a file of at most one list of trust anchors.
pub one_file : (anchors : List ℕ) (given other : List PlainAnchor) → IsAnchorFile anchors given → IsAnchorFile anchors other → given ≡ other
one_file anchors given other p q = ok_is (List PlainAnchor) (ℕ × AnchorFault) given other (one_anchor_file anchors (Ok given) (Ok other) p q)

module _ (answers anchors chain : List ℕ) (moment : ℕ) (purpose : List ℕ) (limit : ℕ) where
  abbrev IsSo : ExitStatus → Type 0
  IsSo = IsVerdictStatus answers anchors chain moment purpose limit

  abbrev Under : (Terms → Type 0) → Type 0
  Under = UnderArguments answers anchors chain moment purpose limit

  abbrev pub IsTold : ℕ → Type 0
  IsTold n = IsExactWithMemory IsSo n

  abbrev IsJudged : Verdict → Type 0
  IsJudged verdict = Under (λ t. IsVerdict t limit chain verdict)

  right : (Says : Terms → Type 0) → Under Says → Under (λ t. Unit {0})
  right Says h = (h.0, (h.1.0, h.1.1, (h.1.2.0, h.1.2.1, h.1.2.2, h.1.2.3, tt)))

  -- An argument is wrong.
  pub misasked : (n : ℕ) → n ≡ code_of statuses.Arguments → (Under (λ t. Unit {0}) → ⊥) → IsExact IsSo n
  misasked n e never = is_exact IsSo statuses.Arguments n e never only
    where
      only : (other : ExitStatus) → IsSo other → other ≡ statuses.Arguments
      only statuses.Done h = absurd (never (right (λ t. Trusted t limit chain) h))
      only statuses.Refused h = absurd (never (right (λ t. (place : ℕ) × (rule : Rule) × Refused t limit chain place rule) h))
      only statuses.Faulty h = absurd (never (right (λ t. (place : ℕ) × (offset : ℕ) × (kind : FaultKind) × Faulty t limit chain place offset kind) h))
      only statuses.Empty h = absurd (never (right (λ t. chain ≡ []) h))
      only statuses.Arguments h = refl
      only _ h = absurd h

  pub unanswered : (n : ℕ) (status : ExitStatus) → n ≡ code_of status → IsUnanswered (AreGiven anchors answers → ⊥) status → IsTold n
  unanswered n status e (inr memory) = inr (e ∙ ap code_of memory)
  unanswered n status e (inl why) = inl (misasked n (e ∙ ap code_of why.0) (λ h. why.1 (h.1.2.0, h.1.2.1, h.1.2.2, h.1.2.3)))

  one_judged : (v w : Verdict) → IsJudged v → IsJudged w → v ≡ w
  one_judged v w p q =
      let arcs = one_identifier purpose q.1.0 p.1.0 q.1.1 p.1.1 in
      let given = one_file anchors q.1.2.0 p.1.2.0 q.1.2.2 p.1.2.2 in
      let listing : q.1.2.1 ≡ p.1.2.1 = ok_is (List Question) (ℕ × LineFault) q.1.2.1 p.1.2.1 (sym q.1.2.3 ∙ p.1.2.3) in
      let t = subst (λ (xs : List ℕ). IsVerdict (run_terms q.1.2.0 moment xs (only_yes_to q.1.2.1)) limit chain w) arcs q.1.2.4 in
      let u = subst (λ (xs : List PlainAnchor). IsVerdict (run_terms xs moment p.1.0 (only_yes_to q.1.2.1)) limit chain w) given t in
      let z = subst (λ (xs : List Question). IsVerdict (run_terms p.1.2.0 moment p.1.0 (only_yes_to xs)) limit chain w) listing u in
      one_verdict (run_terms p.1.2.0 moment p.1.0 (only_yes_to p.1.2.1)) limit chain v w p.1.2.4 z

  -- The chain is validated.
  pub judged : (verdict : Verdict) (n : ℕ) → n ≡ code_of (status_of verdict) → IsJudged verdict → IsExact IsSo n
  judged verdict n e so = is_exact IsSo (status_of verdict) n e (said verdict so) only
    where
      said : (v : Verdict) → IsJudged v → IsSo (status_of v)
      said verdicts.Trusted h = h
      said (verdicts.Refused place rule) h = (h.0, (h.1.0, h.1.1, (h.1.2.0, h.1.2.1, h.1.2.2, h.1.2.3, (place, rule, h.1.2.4))))
      said (verdicts.StreamFault place offset kind) h = (h.0, (h.1.0, h.1.1, (h.1.2.0, h.1.2.1, h.1.2.2, h.1.2.3, (place, offset, kind, h.1.2.4))))
      said verdicts.Empty h = h

      same : (v : Verdict) → IsJudged v → status_of v ≡ status_of verdict
      same v h = ap status_of (one_judged v verdict h so)

      only : (other : ExitStatus) → IsSo other → other ≡ status_of verdict
      only statuses.Done h = same verdicts.Trusted h
      only statuses.Refused h =
          let it = h.1.2.4 in
          same (verdicts.Refused it.0 it.1) (h.0, (h.1.0, h.1.1, (h.1.2.0, h.1.2.1, h.1.2.2, h.1.2.3, it.2)))
      only statuses.Faulty h =
          let it = h.1.2.4 in
          same (verdicts.StreamFault it.0 it.1 it.2) (h.0, (h.1.0, h.1.1, (h.1.2.0, h.1.2.1, h.1.2.2, h.1.2.3, it.3)))
      only statuses.Empty h = same verdicts.Empty h
      only statuses.Arguments h = absurd (h (right (λ t. IsVerdict t limit chain verdict) so))
      only _ h = absurd h

  -- A trusted chain is reported as trusted.
  pub trusted_is_told : (n : ℕ) → IsTold n → IsSo statuses.Done → (n ≡ code_of statuses.Done) ⊎ (n ≡ code_of statuses.Memory)
  trusted_is_told n (inl told) h = inl ((told.exact statuses.Done).1 h)
  trusted_is_told n (inr memory) h = inr memory

  -- For a rejected chain, the index and the rule of its verdict are reported.
  pub refused_is_told : (verdict : Verdict) (old new : WdPlace) (n : ℕ) → n ≡ code_of (status_of verdict) → Tells verdict old new → IsJudged verdict → n ≡ code_of statuses.Refused → UnderTerms anchors answers moment purpose (λ t. (rule : Rule) × (new.number ≡ number rule) × Refused t limit chain new.place rule)
  refused_is_told verdicts.Trusted old new n e tells so refused = absurd (omega (arith, e, refused))
  refused_is_told (verdicts.StreamFault place offset kind) old new n e tells so refused = absurd (omega (arith, e, refused))
  refused_is_told verdicts.Empty old new n e tells so refused = absurd (omega (arith, e, refused))
  refused_is_told (verdicts.Refused place rule) old new n e tells so refused =
      let it = so.1.2 in
      let there = subst (λ (x : ℕ). Refused (run_terms it.0 moment so.1.0 (only_yes_to it.1)) limit chain x rule) (sym tells.0) it.4 in
      (so.1.0, so.1.1, (it.0, it.1, it.2, it.3, (rule, tells.2, there)))
