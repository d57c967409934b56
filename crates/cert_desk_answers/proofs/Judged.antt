-- The trust anchors and answers of a file are those that were read, and no others.
use Rattle.std.proofs.Common.{◌≡◌, ℕ, List, inl, inr, Result, Ok, Err, ap, subst}
use Rattle.cert_desk_checking.specs.DeskIo.declared.exit_status.ExitStatus.{ExitStatus}
use Rattle.cert_desk_checking.specs.DeskIo.declared.exit_status.ExitStatus.TheVariants as statuses
use Rattle.cert_desk_checking.specs.DeskRules.Judging.{Answers, PlainAnchor}
use Rattle.cert_desk_checking.specs.Runs.{run_terms}
use Rattle.cert_desk_checking.specs.DeskRules.Verdicts.{Trusted}
use Rattle.cert_desk_answers.specs.Judged.{IsUnanswered}

-- A weaker reason why there is no result.
pub unanswered_by : {A B : Type 0} (status : ExitStatus) → (A → B) → IsUnanswered A status → IsUnanswered B status
unanswered_by status f (inl why) = inl (why.0, f why.1)
unanswered_by status f (inr memory) = inr memory

pub only_memory : {A : Type 0} (status : ExitStatus) → (A → ⊥) → IsUnanswered A status → status ≡ statuses.Memory
only_memory status never (inl why) = absurd (never why.1)
only_memory status never (inr memory) = memory

abbrev got : {A E : Type 0} → A → Result A E → A
got d (Ok x) = x
got d (Err e) = d

pub ok_is : (A E : Type 0) (a b : A) → ◌≡◌ {A = Result A E} (Ok a) (Ok b) → a ≡ b
ok_is A E a b e = ap (λ (r : Result A E). got a r) e

-- Trust under equal terms.
pub trusted_by : (given other : List PlainAnchor) (moment : ℕ) (purpose : List ℕ) (says answers : Answers) (limit most : ℕ) (chain : List ℕ)
    → given ≡ other → says ≡ answers → limit ≡ most → Trusted (run_terms given moment purpose says) limit chain → Trusted (run_terms other moment purpose answers) most chain
trusted_by given other moment purpose says answers limit most chain p q r h =
    subst (λ (xs : List PlainAnchor). Trusted (run_terms xs moment purpose answers) most chain) p
    (subst (λ (f : Answers). Trusted (run_terms given moment purpose f) most chain) q
    (subst (λ (n : ℕ). Trusted (run_terms given moment purpose says) n chain) r h))
