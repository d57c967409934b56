-- The verdict on the chain that orders ask for, whoever signs it.
use Rattle.std.specs.Prelude.{◌≡◌, ◌⊎◌, ℕ, List, [], ◌∷◌, true}
use Rattle.cert_desk_orders.specs.Der.Limits.{length_max}
use Rattle.x509_cert_builders.specs.CertCertificates.Certificates.{PlainCertificate}
use Rattle.cert_desk_checking.specs.DeskIo.declared.exit_status.ExitStatus.{ExitStatus}
use Rattle.cert_desk_checking.specs.DeskIo.declared.exit_status.ExitStatus.TheVariants as statuses
use Rattle.cert_desk_checking.specs.DeskRules.Identifiers.{IsNoIdentifier, IsSomeIdentifier}
use Rattle.cert_desk_checking.specs.DeskRules.Identifiers.{SpellsIdentifier}
use Rattle.cert_desk_checking.specs.DeskRules.declared.checked.Verdict.{Verdict}
use Rattle.cert_desk_checking.specs.DeskRules.declared.checked.Verdict.TheVariants as verdicts
use Rattle.cert_desk_checking.specs.DeskRules.declared.rule.Rule.{Rule}
use Rattle.cert_desk_checking.specs.DeskRules.Judging.{Answers, number}
use Rattle.cert_desk_checking.specs.DeskRules.Verdicts.{Refused, Trusted}
use Rattle.cert_desk_orders.specs.declared.order.Order.{Order}
use Rattle.cert_desk.specs.declared.issue_error.IssueError.{IssueError}
use Rattle.cert_desk.specs.Acceptance.{AcceptedOrders}
use Rattle.cert_desk.specs.Chains.{HoldsOrders}
use Rattle.cert_desk.specs.Laws.{AreAnswered, AreWithin, terms_for}
use Rattle.cert_desk.specs.PlainOrders.{PlainOrder}
use Rattle.cert_desk.specs.Runs.{signing_keys}
use Rattle.cert_desk_issuing_c.specs.Reasons.{place_of, reason_number}
use Rattle.cert_desk_issuing_c.specs.Signing.{AreFaulty, AreRefusedFor, UnderOrders}

-- The answers that accept each signature.
abbrev pub always : Answers
always = λ key algorithm octets bits. true

-- There is a chain that fulfils these orders. Each such chain is trusted under its own root if its
-- certificates are within the size limit and its signatures are accepted.
abbrev pub AreTrusted : ℕ → List ℕ → PlainOrder → List PlainOrder → Type 0
AreTrusted moment purpose root below =
    ((cs : List PlainCertificate) × (stream : List ℕ) × HoldsOrders (root ∷ below) cs stream)
    × ((cs : List PlainCertificate) (stream : List ℕ) (limit : ℕ) (answers : Answers)
    → HoldsOrders (root ∷ below) cs stream → AreWithin limit cs
    → AreAnswered answers (root ∷ below) cs
    → Trusted (terms_for root moment purpose answers) limit stream)

-- A chain that fulfils the orders is rejected at an index, although each signature is accepted.
abbrev pub IsBroken : ℕ → List ℕ → PlainOrder → List PlainOrder → ℕ → Rule → Type 0
IsBroken moment purpose root below place rule =
    (cs : List PlainCertificate) × (stream : List ℕ) × HoldsOrders (root ∷ below) cs stream
    × Refused (terms_for root moment purpose always) length_max stream place rule

-- The verdict on the chain of the orders.
abbrev pub Judges : ℕ → List ℕ → PlainOrder → List PlainOrder → Verdict → Type 0
Judges moment purpose root below verdicts.Trusted = AreTrusted moment purpose root below
Judges moment purpose root below (verdicts.Refused place rule) =
    IsBroken moment purpose root below place rule
Judges moment purpose root below _ = ⊥

-- The orders are accepted, and `Says` holds for the values that they ask for, beginning with the
-- root.
abbrev pub UnderAccepted : List Order → (PlainOrder → List PlainOrder → Type 0) → Type 0
UnderAccepted said Says =
    (root : PlainOrder) × (below : List PlainOrder)
    × AcceptedOrders said (signing_keys said) (root ∷ below) × Says root below

-- The orders are accepted, and this is the verdict on their chain.
abbrev pub IsJudged : List Order → ℕ → List ℕ → Verdict → Type 0
IsJudged said moment purpose verdict =
    UnderAccepted said (λ root below. Judges moment purpose root below verdict)

-- The bytes are accepted orders, an algorithm and the content of an OID, and `Says` holds for them.
abbrev pub UnderAsked : List ℕ → List ℕ → List ℕ → (List ℕ → PlainOrder → List PlainOrder → Type 0)
    → Type 0
UnderAsked orders algorithm purpose Says =
    (arcs : List ℕ) × SpellsIdentifier purpose arcs
    × UnderOrders orders algorithm (λ said a. UnderAccepted said (Says arcs))

-- The meaning of each status: each such chain is trusted; the orders or a chain of them are
-- rejected, at the index and for the reason that are reported; an argument is wrong; or an
-- allocation failed, and the purpose is an OID.
abbrev pub IsAudit : List ℕ → List ℕ → ℕ → List ℕ → ℕ → ℕ → ExitStatus → Type 0
IsAudit orders algorithm moment purpose place told statuses.Done =
    UnderAsked orders algorithm purpose (λ arcs root below. AreTrusted moment arcs root below)
IsAudit orders algorithm moment purpose place told statuses.Refused =
    ((arcs : List ℕ) × (error : IssueError) × SpellsIdentifier purpose arcs
    × (place ≡ place_of error) × (told ≡ reason_number error)
    × AreRefusedFor orders algorithm [] error)
    ⊎ UnderAsked orders algorithm purpose
    (λ arcs root below. (rule : Rule) × (told ≡ number rule)
    × IsBroken moment arcs root below place rule)
IsAudit orders algorithm moment purpose place told statuses.Arguments =
    AreFaulty orders algorithm [] ⊎ IsNoIdentifier purpose
IsAudit orders algorithm moment purpose place told statuses.Memory = IsSomeIdentifier purpose
IsAudit orders algorithm moment purpose place told _ = ⊥
