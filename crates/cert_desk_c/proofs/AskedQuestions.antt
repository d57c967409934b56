-- The results of a call on the questions of a chain.
use Rattle.std.proofs.Common.{◌≡◌, ◌≢◌, ◌≤◌, ◌<◌, ◌⊎◌, inl, inr, ℕ, List, [], length, refl, sym, ap, subst, ◌∙◌, arith}
use Rattle.cert_tool_describe.specs.Oid.Bound.{Bound}
use Rattle.cert_desk_listing.specs.DeskIo.declared.exit_status.ExitStatus.{ExitStatus}
use Rattle.cert_desk_listing.specs.DeskIo.declared.exit_status.ExitStatus.TheVariants as statuses
use Rattle.cert_desk_listing.specs.DeskIo.Statuses.{code_of}
use Rattle.cert_desk_answers.specs.DeskRules.Returned.{IsExact, IsExactWithMemory, IsTextStatus}
use Rattle.cert_desk_answers.proofs.DeskRules.Returning.{given, withheld}
use Rattle.cert_tool_describe.specs.CertCertificates.Certificates.{PlainCertificate}
use Rattle.cert_desk_answers.specs.DeskBundle.declared.standing.Standing.{Standing}
use Rattle.cert_desk_answers.specs.DeskBundle.declared.standing.Standing.TheVariants as standings
use Rattle.cert_desk_answers.specs.DeskBundle.Chains.{Chain, joined}
use Rattle.cert_desk_answers.specs.DeskBundle.Streams.{Kept, Reads}
use Rattle.cert_desk_answers.proofs.DeskBundle.Readings.{ReadsUnder}
use Rattle.cert_desk_answers.proofs.DeskBundle.OneChain.{fault_no_chain, one_chain}
use Rattle.cert_desk_answers.specs.DeskRules.Judging.{PlainAnchor}
use Rattle.cert_desk_answers.specs.DeskChecking.AnchorFiles.{IsAnchorFile}
use Rattle.cert_desk_answers.specs.DeskChecking.QuestionLines.{chain_lines, lines_octets}
use Rattle.cert_desk_answers.proofs.DeskChecking.ChainLaws.{chain_is_some}
use Rattle.cert_desk_answers.specs.Judged.{IsUnanswered}
use Rattle.cert_desk_c.specs.Judged.{AreAnchors, AreQuestions, HasNoQuestions, IsNoChain}
use Rattle.cert_desk_c.proofs.Verdicts.{one_file}

-- Empty input is the chain of no certificates.
no_octets : (limit : ℕ) (octets : List ℕ) → octets ≡ [] → Chain Bound limit [] octets
no_octets limit octets e = record { each = tt; joins = e; fits = omega (arith, ap length e) }

module _ (anchors chain : List ℕ) (limit : ℕ) where
  abbrev Says : List ℕ → Type 0
  Says = AreQuestions anchors chain limit

  abbrev Lacks : ExitStatus → Type 0
  Lacks = HasNoQuestions anchors chain limit

  one_text : (text other : List ℕ) → Says text → Says other → other ≡ text
  one_text text other p q =
      let given = one_file anchors q.1.0 p.1.0 q.1.2 p.1.2 in
      let cs = one_chain Bound limit q.1.1 p.1.1 chain q.1.3 p.1.3 in
      q.1.5 ∙ ap (λ (xs : List PlainAnchor). lines_octets (chain_lines xs q.1.1 (joined Bound q.1.1))) given
      ∙ ap (λ (xs : List PlainCertificate). lines_octets (chain_lines p.1.0 xs (joined Bound xs))) cs ∙ sym p.1.5

  some_chain : (text : List ℕ) → Says text → (status : ExitStatus) → IsNoChain limit chain status → ⊥
  some_chain text p statuses.Faulty h = h p.1.1 p.1.3
  some_chain text p statuses.Empty h = chain_is_some Bound p.1.1 p.1.4 (sym h ∙ p.1.3.joins)
  some_chain text p _ h = h

  not_both : (text : List ℕ) → Says text → (status : ExitStatus) → Lacks status → ⊥
  not_both text p statuses.Arguments h = h (p.0, (p.1.0, p.1.2))
  not_both text p status h = some_chain text p status h.1

  one_lack : (status other : ExitStatus) → Lacks status → Lacks other → other ≡ status
  one_lack statuses.Arguments statuses.Arguments p q = refl
  one_lack statuses.Faulty statuses.Faulty p q = refl
  one_lack statuses.Empty statuses.Empty p q = refl
  one_lack statuses.Faulty statuses.Empty p q = absurd (p.1 [] (no_octets limit chain q.1))
  one_lack statuses.Empty statuses.Faulty p q = absurd (q.1 [] (no_octets limit chain p.1))
  one_lack statuses.Arguments other p q = absurd (p q.0)
  one_lack status statuses.Arguments p q = absurd (q p.0)
  one_lack statuses.Faulty other p q = absurd q.1
  one_lack statuses.Empty other p q = absurd q.1
  one_lack status other p q = absurd p.1

  module _ (room : List ℕ) where
    pub asked : (text : List ℕ) (n : ℕ) → Says text → (n ≡ code_of statuses.Done) ⊎ (n ≡ code_of statuses.Device) → (n ≡ code_of statuses.Done → length text ≤ length room) → (n ≡ code_of statuses.Device → length room < length text)
        → IsExact (IsTextStatus Says Lacks room) n
    asked text n says = given Says Lacks room text n says (λ other h. ap length (one_text text other says h)) (not_both text says)

    pub unasked : (status : ExitStatus) (n : ℕ) → n ≡ code_of status → Lacks status ⊎ (status ≡ statuses.Memory) → IsExactWithMemory (IsTextStatus Says Lacks room) n
    unasked status n e (inr memory) = inr (e ∙ ap code_of memory)
    unasked status n e (inl why) = inl (withheld Says Lacks room status n e (λ text h. not_both text h status why) (λ h. h.1) (λ h. h.1) why (λ other h. one_lack status other why h))

-- The chain that a bundle has read.
pub no_series : (b : Kept) (octets : List ℕ) → b.standing ≢ standings.Open → b.standing ≢ standings.Ended → Reads Bound b octets → (cs : List PlainCertificate) → Chain Bound b.limit cs octets → ⊥
no_series b octets not_open not_ended reads cs chain = by_standing b.standing refl reads
  where
    by_standing : (s : Standing) → b.standing ≡ s → ReadsUnder Bound s b octets → ⊥
    by_standing standings.Open e h = not_open e
    by_standing standings.Ended e h = not_ended e
    by_standing standings.NoMemory e h = h
    by_standing standings.NoDevice e h = h
    by_standing (standings.Faulted kind) e h = fault_no_chain Bound b.limit b.certificates cs kind octets h chain

-- The reason why there are no questions.
pub no_anchors : (anchors chain : List ℕ) (limit : ℕ) (status : ExitStatus) → IsUnanswered ((given : List PlainAnchor) → IsAnchorFile anchors given → ⊥) status → HasNoQuestions anchors chain limit status ⊎ (status ≡ statuses.Memory)
no_anchors anchors chain limit status (inr memory) = inr memory
no_anchors anchors chain limit status (inl none) = inl (subst (λ s. HasNoQuestions anchors chain limit s) (sym none.0) (λ h. none.1 h.1.0 h.1.1))

no_chain : (anchors chain : List ℕ) (limit : ℕ) (status : ExitStatus) → AreAnchors limit anchors → IsNoChain limit chain status → HasNoQuestions anchors chain limit status
no_chain anchors chain limit statuses.Arguments a h = absurd h
no_chain anchors chain limit status a h = (a, h)

pub no_questions : (anchors chain : List ℕ) (limit : ℕ) (status : ExitStatus) → AreAnchors limit anchors → IsNoChain limit chain status ⊎ (status ≡ statuses.Memory) → HasNoQuestions anchors chain limit status ⊎ (status ≡ statuses.Memory)
no_questions anchors chain limit status a (inl none) = inl (no_chain anchors chain limit status a none)
no_questions anchors chain limit status a (inr memory) = inr memory
