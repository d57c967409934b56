-- The lines of a chain list exactly the questions that its signatures may ask.
use Rattle.std.proofs.Common.{◌≡◌, ℕ, zero, suc, ◌+◌, ◌<◌, List, [], ◌∷◌, length, Bool, true, false, cond, Option, Some, None, slice_get, inl, inr, arith, refl, ap, subst, sym}
use Rattle.std.specs.List.{AllByRecursion}
use Rattle.std.specs.Option.{option_map_or}
use Rattle.std.proofs.lemmas.Bool.{cases_lt}
use Rattle.std.proofs.lemmas.Option.{slice_get_past}
use Rattle.x509_cert_anchors.proofs.Der.BoundLaws.{front_all, back_all}
use Rattle.x509_cert_anchors.specs.Oid.Bound.{Bound}
use Rattle.x509_cert_anchors.specs.CertCertificates.Certificates.{PlainCertificate, public_key}
use Rattle.cert_desk_rules.specs.declared.checked.Verdict.{Verdict}
use Rattle.cert_desk_rules.specs.DeskBundle.Chains.{Chain}
use Rattle.cert_desk_rules.specs.Judging.{Answers, Terms, PlainAnchor, is_named}
use Rattle.cert_desk_checking.specs.QuestionLines.{QuestionLine, anchor_lines, chain_lines, lines_at, lines_below, lines_of, questions_of_lines}
use Rattle.cert_desk_rules.specs.Questions.{Question, anchor_questions, answer_on, question, questions_at, questions_of, under}
use Rattle.cert_desk_rules.specs.Verdicts.{IsVerdict, Asks}
use Rattle.cert_desk_checking.proofs.JudgedAlike.{judged_alike}

module _ (cs : List PlainCertificate) (stream : List ℕ) where
  -- A trust anchor with another name has no line.
  where_named : (b : Bool) (l : QuestionLine) (more : List QuestionLine) (qs : List Question) → questions_of_lines more ≡ qs
      → questions_of_lines (cond b (l ∷ more) more) ≡ cond b (l.question ∷ qs) qs
  where_named true l more qs e = ap (λ (x : List Question). l.question ∷ x) e
  where_named false l more qs e = e

  of_anchors : (c : PlainCertificate) (number : ℕ) (anchors : List PlainAnchor)
      → questions_of_lines (anchor_lines cs stream c number anchors) ≡ anchor_questions Bound cs stream c anchors
  of_anchors c number [] = refl
  of_anchors c number (a ∷ more) =
      where_named (is_named Bound c a) (record { place = 0; anchor = Some number; question = question Bound cs stream 0 c a.key })
      (anchor_lines cs stream c (number + 1) more) (anchor_questions Bound cs stream c more) (of_anchors c (number + 1) more)

  of_later : (before : ℕ) (c : PlainCertificate) (o : Option PlainCertificate)
      → questions_of_lines (option_map_or (λ b. record { place = suc before; anchor = None; question = question Bound cs stream (suc before) c (public_key b) } ∷ []) o [])
      ≡ option_map_or (λ b. question Bound cs stream (suc before) c (public_key b) ∷ []) o []
  of_later before c None = refl
  of_later before c (Some b) = refl

  of_place : (anchors : List PlainAnchor) (place : ℕ) (c : PlainCertificate) → questions_of_lines (lines_of anchors cs stream place c) ≡ questions_of Bound anchors cs stream place c
  of_place anchors zero c = of_anchors c 0 anchors
  of_place anchors (suc before) c = of_later before c (slice_get cs before)

  of_any : (anchors : List PlainAnchor) (place : ℕ) (o : Option PlainCertificate)
      → questions_of_lines (option_map_or (lines_of anchors cs stream place) o []) ≡ option_map_or (questions_of Bound anchors cs stream place) o []
  of_any anchors place None = refl
  of_any anchors place (Some c) = of_place anchors place c

pub questions_are_listed : (anchors : List PlainAnchor) (cs : List PlainCertificate) (stream : List ℕ) (place : ℕ)
    → questions_of_lines (lines_at anchors cs stream place) ≡ questions_at Bound anchors cs stream place
questions_are_listed anchors cs stream place = of_any cs stream anchors place (slice_get cs place)

-- A fact about each line of a chain holds for the lines of each index.
below : (F : QuestionLine → Type 0) (anchors : List PlainAnchor) (cs : List PlainCertificate) (stream : List ℕ) (n place : ℕ) → place < n
    → AllByRecursion F (lines_below anchors cs stream n) → AllByRecursion F (lines_at anchors cs stream place)
below F anchors cs stream zero place h each = absurd (omega arith)
below F anchors cs stream (suc n) place h each =
    elim (cases_lt place n) [
      | inl before ↦ below F anchors cs stream n place before (front_all F (lines_below anchors cs stream n) (lines_at anchors cs stream n) each)
      | inr last ↦
          let e : n ≡ place = omega arith in
          subst (λ k. AllByRecursion F (lines_at anchors cs stream k)) e (back_all F (lines_below anchors cs stream n) (lines_at anchors cs stream n) each)
    ]

at_place : (F : QuestionLine → Type 0) (anchors : List PlainAnchor) (cs : List PlainCertificate) (stream : List ℕ) (place : ℕ)
    → AllByRecursion F (chain_lines anchors cs stream) → AllByRecursion F (lines_at anchors cs stream place)
at_place F anchors cs stream place each =
    elim (cases_lt place (length cs)) [
      | inl within ↦ below F anchors cs stream (length cs) place within each
      | inr past ↦ subst (λ o. AllByRecursion F (option_map_or (lines_of anchors cs stream place) o [])) (sym (slice_get_past cs place past)) tt
    ]

of_lines : (P : Question → Type 0) (lines : List QuestionLine) → AllByRecursion (λ l. P l.question) lines → AllByRecursion P (questions_of_lines lines)
of_lines P [] each = tt
of_lines P (l ∷ more) each = (each.0, of_lines P more each.1)

pub judged_by_lines : (t : Terms) (other : Answers) (limit : ℕ) (stream : List ℕ) (verdict : Verdict) (n : ℕ) → t.bound ≡ Bound
    → ((cs : List PlainCertificate) → Chain t.bound limit cs stream → AllByRecursion (λ l. answer_on t.answers l.question ≡ answer_on other l.question) (chain_lines t.anchors cs stream))
    → (IsVerdict t limit stream verdict → IsVerdict (under t other) limit stream verdict)
    × (Asks t limit stream n → Asks (under t other) limit stream n)
judged_by_lines t other limit stream verdict n bound agree =
    let Agree : Question → Type 0 = λ q. answer_on t.answers q ≡ answer_on other q in
    judged_alike t other limit stream verdict n (λ cs chain place.
    subst (λ b. AllByRecursion Agree (questions_at b t.anchors cs stream place)) (sym bound)
    (subst (λ qs. AllByRecursion Agree qs) (questions_are_listed t.anchors cs stream place)
    (of_lines Agree (lines_at t.anchors cs stream place) (at_place (λ l. Agree l.question) t.anchors cs stream place (agree cs chain)))))
