-- The results of the calls that validate a chain.
use Rattle.std.specs.Prelude.{◌≡◌, ℕ, ◌≤◌, ◌<◌, ◌^◌, List, [], length, ⊤}
use Rattle.cert_tool_describe.specs.Oid.Bound.{Bound}
use Rattle.cert_tool_describe.specs.CertCertificates.Certificates.{PlainCertificate}
use Rattle.cert_desk_listing.specs.DeskIo.declared.exit_status.ExitStatus.{ExitStatus}
use Rattle.cert_desk_listing.specs.DeskIo.declared.exit_status.ExitStatus.TheVariants as statuses
use Rattle.cert_desk_answers.specs.DeskRules.Identifiers.{SpellsIdentifier}
use Rattle.cert_desk_answers.specs.DeskBundle.declared.fault_kind.FaultKind.{FaultKind}
use Rattle.cert_desk_answers.specs.DeskBundle.Chains.{Chain, joined}
use Rattle.cert_desk_answers.specs.DeskBundle.Faults.{rank}
use Rattle.cert_desk_answers.specs.DeskRules.declared.checked.Verdict.{Verdict}
use Rattle.cert_desk_answers.specs.DeskRules.declared.checked.Verdict.TheVariants as verdicts
use Rattle.cert_desk_answers.specs.DeskRules.declared.rule.Rule.{Rule}
use Rattle.cert_desk_answers.specs.DeskRules.Judging.{PlainAnchor, Terms, number}
use Rattle.cert_desk_answers.specs.DeskRules.Verdicts.{Faulty, Refused, Trusted}
use Rattle.cert_desk_answers.specs.DeskChecking.AnchorFiles.{IsAnchorFile}
use Rattle.cert_desk_answers.specs.DeskChecking.QuestionLines.{chain_lines, lines_octets}
use Rattle.cert_desk_answers.specs.Judged.{UnderGiven}
use Rattle.cert_desk_c.specs.declared.numbers.WdPlace.{WdPlace}

-- The purpose is the content of an OID (X.690 8.19), the other bytes are trust anchors and answers,
-- and `Says` holds under the terms that they give.
abbrev pub UnderTerms : List ℕ → List ℕ → ℕ → List ℕ → (Terms → Type 0) → Type 0
UnderTerms anchors answers moment purpose Says =
    (arcs : List ℕ) × SpellsIdentifier purpose arcs × UnderGiven anchors answers moment arcs Says

-- The size limit of a certificate is at least 6, and the trust anchors are shorter than 2^32 bytes.
abbrev pub AreWithin : ℕ → List ℕ → Type 0
AreWithin limit anchors = (6 ≤ limit) × (length anchors < 2 ^ 32)

module _ (answers anchors chain : List ℕ) (moment : ℕ) (purpose : List ℕ) (limit : ℕ) where
  -- The arguments are valid, and `Says` holds under their terms.
  abbrev pub UnderArguments : (Terms → Type 0) → Type 0
  UnderArguments Says = AreWithin limit anchors × UnderTerms anchors answers moment purpose Says

  -- The status of the validation: the chain is trusted, is rejected, has an error, or is empty, or
  -- the arguments are wrong.
  abbrev pub IsVerdictStatus : ExitStatus → Type 0
  IsVerdictStatus statuses.Done = UnderArguments (λ t. Trusted t limit chain)
  IsVerdictStatus statuses.Refused =
      UnderArguments (λ t. (place : ℕ) × (rule : Rule) × Refused t limit chain place rule)
  IsVerdictStatus statuses.Faulty =
      UnderArguments (λ t. (place : ℕ) × (offset : ℕ) × (kind : FaultKind)
      × Faulty t limit chain place offset kind)
  IsVerdictStatus statuses.Empty = UnderArguments (λ t. chain ≡ [])
  IsVerdictStatus statuses.Arguments = UnderArguments (λ t. ⊤) → ⊥
  IsVerdictStatus _ = ⊥

-- The numbers that are stored for a verdict: the index of the certificate, the number of the rule
-- or of the kind of error, and the offset of an error.
abbrev pub Tells : Verdict → WdPlace → WdPlace → Type 0
Tells verdicts.Trusted old new = new ≡ old
Tells (verdicts.Refused at rule) old new =
    (new.place ≡ at) × (new.offset ≡ old.offset) × (new.number ≡ number rule)
Tells (verdicts.StreamFault at from kind) old new =
    (new.place ≡ at) × (new.offset ≡ from) × (new.number ≡ rank kind)
Tells verdicts.Empty old new = new ≡ old

-- The bytes are trust anchors and a chain, and the text has a line for each question that the
-- chain's signatures may ask, in order.
abbrev pub AreQuestions : List ℕ → List ℕ → ℕ → List ℕ → Type 0
AreQuestions anchors chain limit text =
    AreWithin limit anchors
    × ((given : List PlainAnchor) × (cs : List PlainCertificate)
    × IsAnchorFile anchors given × Chain Bound limit cs chain × (0 < length cs)
    × (text ≡ lines_octets (chain_lines given cs (joined Bound cs))))

-- The reason why there is no chain: the bytes aren't a sequence of certificates, or there are none.
abbrev pub IsNoChain : ℕ → List ℕ → ExitStatus → Type 0
IsNoChain limit octets statuses.Faulty =
    (cs : List PlainCertificate) → Chain Bound limit cs octets → ⊥
IsNoChain limit octets statuses.Empty = octets ≡ []
IsNoChain limit octets _ = ⊥

-- The bytes are trust anchors.
abbrev pub AreAnchors : ℕ → List ℕ → Type 0
AreAnchors limit anchors =
    AreWithin limit anchors × ((given : List PlainAnchor) × IsAnchorFile anchors given)

-- The reason why there are no questions.
abbrev pub HasNoQuestions : List ℕ → List ℕ → ℕ → ExitStatus → Type 0
HasNoQuestions anchors chain limit statuses.Arguments = AreAnchors limit anchors → ⊥
HasNoQuestions anchors chain limit status =
    AreAnchors limit anchors × IsNoChain limit chain status
