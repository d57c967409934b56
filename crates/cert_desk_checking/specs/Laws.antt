-- Laws about every input.
use Rattle.std.specs.Prelude.{◌≡◌, ◌≢◌, ◌<◌, ◌↔◌, ℕ, List, length, ◌++◌, true, Result}
use Rattle.std.specs.List.{AllByRecursion}
use Rattle.x509_cert_anchors.specs.Oid.Bound.{Bound}
use Rattle.x509_cert_anchors.specs.Der.Shapes.{Shape, Value}
use Rattle.x509_cert_anchors.specs.CertCertificates.Certificates.{PlainCertificate}
use Rattle.cert_desk_rules.specs.declared.checked.Verdict.{Verdict}
use Rattle.cert_desk_rules.specs.declared.checked.Verdict.TheVariants as verdicts
use Rattle.cert_desk_rules.specs.DeskBundle.declared.fault_kind.FaultKind.{FaultKind}
use Rattle.cert_desk_rules.specs.DeskBundle.declared.fault_kind.FaultKind.TheVariants as kinds
use Rattle.cert_desk_checking.specs.declared.anchor_fault.AnchorFault.{AnchorFault}
use Rattle.cert_desk_rules.specs.declared.kept_rules.KeptRules.{KeptRules}
use Rattle.cert_desk_rules.specs.declared.rule.Rule.{Rule}
use Rattle.cert_desk_checking.specs.AnchorFiles.{SaysAsFile}
use Rattle.cert_desk_rules.specs.DeskBundle.Chains.{Chain}
use Rattle.cert_desk_rules.specs.DeskBundle.Faults.{SeriesFault, StreamFault}
use Rattle.cert_desk_rules.specs.Judging.{PlainAnchor, Answers, Terms}
use Rattle.cert_desk_rules.specs.KeptRules.{AreJudged, IsFirstBreach, kept_at}
use Rattle.cert_desk_checking.specs.QuestionLines.{chain_lines, lines_at, questions_of_lines}
use Rattle.cert_desk_rules.specs.Questions.{AnswerAlike, answer_on, questions_at, under}
use Rattle.cert_desk_rules.specs.DeskBundle.Series.{IsUnambiguous, Series}
use Rattle.cert_desk_rules.specs.Verdicts.{IsVerdict, Asks}

-- No input is the concatenation of two different lists of values of an unambiguous shape.
abbrev pub HasOneSeries : Type 0
HasOneSeries =
    (s : Shape) (limit : ℕ) (vs ws : List (Value s)) (stream : List ℕ)
    → IsUnambiguous s → Series s limit vs stream → Series s limit ws stream → vs ≡ ws

-- No input of values of an unambiguous shape has two errors.
abbrev pub HasOneSeriesFault : Type 0
HasOneSeriesFault =
    (s : Shape) (limit : ℕ) (vs ws : List (Value s)) (kind other : FaultKind) (stream : List ℕ)
    → IsUnambiguous s → SeriesFault s limit stream vs kind → SeriesFault s limit stream ws other
    → (vs ≡ ws) × (kind ≡ other)

-- No input is the concatenation of two different lists of certificates.
abbrev pub HasOneChain : Type 0
HasOneChain =
    (bound limit : ℕ) (cs ds : List PlainCertificate) (stream : List ℕ)
    → Chain bound limit cs stream → Chain bound limit ds stream → cs ≡ ds

-- An input with an error isn't the concatenation of any list of certificates.
abbrev pub FaultHasNoChain : Type 0
FaultHasNoChain =
    (bound limit : ℕ) (cs ds : List PlainCertificate) (kind : FaultKind) (stream : List ℕ)
    → StreamFault bound limit stream cs kind → Chain bound limit ds stream → ⊥

-- No input has two errors.
abbrev pub HasOneFault : Type 0
HasOneFault =
    (bound limit : ℕ) (cs ds : List PlainCertificate) (kind other : FaultKind) (stream : List ℕ)
    → StreamFault bound limit stream cs kind → StreamFault bound limit stream ds other → (cs ≡ ds)
    × (kind ≡ other)

-- An error of an input is also the error of every longer input, unless the input only ends too
-- early.
abbrev pub FaultStays : Type 0
FaultStays =
    (bound limit : ℕ) (cs : List PlainCertificate) (kind : FaultKind) (stream more : List ℕ)
    → kind ≢ kinds.Truncated → StreamFault bound limit stream cs kind
    → StreamFault bound limit (stream ++ more) cs kind

-- No input has two verdicts under the same terms.
abbrev pub HasOneVerdict : Type 0
HasOneVerdict =
    (t : Terms) (limit : ℕ) (stream : List ℕ) (verdict other : Verdict)
    → IsVerdict t limit stream verdict → IsVerdict t limit stream other → verdict ≡ other

-- If the rules that each certificate keeps are known, the verdict rejects the chain for a breach
-- exactly if that is the first one.
abbrev pub RefusedAtFirstBreach : Type 0
RefusedAtFirstBreach =
    (t : Terms) (limit : ℕ) (cs : List PlainCertificate) (stream : List ℕ)
    (judged : List KeptRules) (verdict : Verdict) (place : ℕ) (rule : Rule)
    → Chain t.bound limit cs stream → AreJudged t cs stream judged
    → IsVerdict t limit stream verdict
    → (verdict ≡ verdicts.Refused place rule) ↔ IsFirstBreach judged place rule

-- If the rules that each certificate keeps are known, the verdict is `Trusted` exactly if there is
-- a certificate and no breach.
abbrev pub TrustedWithoutBreach : Type 0
TrustedWithoutBreach =
    (t : Terms) (limit : ℕ) (cs : List PlainCertificate) (stream : List ℕ)
    (judged : List KeptRules) (verdict : Verdict)
    → Chain t.bound limit cs stream → AreJudged t cs stream judged
    → IsVerdict t limit stream verdict
    → (verdict ≡ verdicts.Trusted)
    ↔ ((0 < length judged) × ((place : ℕ) (rule : Rule) → kept_at judged place rule ≡ true))

-- A file of trust anchors has at most one meaning.
abbrev pub HasOneAnchorFile : Type 0
HasOneAnchorFile = (octets : List ℕ) (said other : Result (List PlainAnchor) (ℕ × AnchorFault))
    → SaysAsFile octets said → SaysAsFile octets other → said ≡ other

-- Verifiers with the same answers to all questions that a chain may ask give the same verdict, and
-- are asked as often.
abbrev pub IsJudgedAlike : Type 0
IsJudgedAlike =
    (t : Terms) (other : Answers) (limit : ℕ) (stream : List ℕ) (verdict : Verdict) (n : ℕ)
    → ((cs : List PlainCertificate) → Chain t.bound limit cs stream → AnswerAlike t other cs stream)
    → (IsVerdict t limit stream verdict → IsVerdict (under t other) limit stream verdict)
    × (Asks t limit stream n → Asks (under t other) limit stream n)

-- The lines for an index are those of the questions that may be asked about the signature of that
-- certificate, in order, and no others.
abbrev pub QuestionsAreListed : Type 0
QuestionsAreListed =
    (anchors : List PlainAnchor) (cs : List PlainCertificate) (stream : List ℕ) (place : ℕ)
    → questions_of_lines (lines_at anchors cs stream place)
    ≡ questions_at Bound anchors cs stream place

-- Verifiers with the same answers to the questions on the lines of a chain give the same verdict,
-- and are asked as often.
abbrev pub IsJudgedByLines : Type 0
IsJudgedByLines =
    (t : Terms) (other : Answers) (limit : ℕ) (stream : List ℕ) (verdict : Verdict) (n : ℕ)
    → t.bound ≡ Bound
    → ((cs : List PlainCertificate) → Chain t.bound limit cs stream
    → AllByRecursion (λ l. answer_on t.answers l.question ≡ answer_on other l.question)
    (chain_lines t.anchors cs stream))
    → (IsVerdict t limit stream verdict → IsVerdict (under t other) limit stream verdict)
    × (Asks t limit stream n → Asks (under t other) limit stream n)
