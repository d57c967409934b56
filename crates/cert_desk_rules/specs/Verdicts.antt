-- The verdict on an input, and the number of questions to the signature verifier.
use Rattle.std.specs.Prelude.{◌≡◌, ℕ, zero, suc, ◌+◌, ◌-◌, ◌<◌, ◌^◌, List, [], ◌∷◌, length}
use Rattle.std.specs.Prelude.{Bool, true, false, min, max, not, ◌&&◌, if◌then◌else◌, find, Some}
use Rattle.std.specs.Prelude.{slice_get}
use Rattle.std.specs.Option.{option_map_or}
use Rattle.cert_desk_bundle.specs.CertCertificates.Certificates.{PlainCertificate, raw_certificate}
use Rattle.cert_desk_rules.specs.declared.checked.Checked.{Checked}
use Rattle.cert_desk_rules.specs.declared.checked.Verdict.{Verdict}
use Rattle.cert_desk_rules.specs.declared.checked.Verdict.TheVariants as verdicts
use Rattle.cert_desk_bundle.specs.declared.fault_kind.FaultKind.{FaultKind}
use Rattle.cert_desk_rules.specs.declared.rule.Rule.{Rule}
use Rattle.cert_desk_rules.specs.declared.rule.Rule.TheVariants as rules
use Rattle.cert_desk_bundle.specs.Chains.{Chain, joined}
use Rattle.cert_desk_bundle.specs.Faults.{SeriesFault}
use Rattle.cert_desk_rules.specs.Judging.{Answers, Terms, PlainAnchor, keeps_at, may_ask}
use Rattle.cert_desk_rules.specs.Judging.{accepted, in_order, is_named, signed_part}
use Rattle.cert_desk_rules.specs.Paths.{extensions_at}
use Rattle.cert_desk_rules.specs.Weighing.{may_take_memory}

-- The input is a chain of at least one certificate, and each certificate keeps every rule.
pub record Trusted (t : Terms) (limit : ℕ) (stream : List ℕ) : Type 0 where
  pub certificates : List PlainCertificate
  pub some : 0 < length certificates
  pub chain : Chain t.bound limit certificates stream
  pub kept : (place : ℕ) (rule : Rule) → place < length certificates
      → keeps_at rule t certificates stream place ≡ true

-- The certificates before this index keep every rule.
abbrev pub all_kept_below : Terms → List PlainCertificate → List ℕ → ℕ → Bool
all_kept_below t cs stream zero = true
all_kept_below t cs stream (suc place) = all_kept_below t cs stream place
    && (may_ask t cs stream place && keeps_at rules.WrongSignature t cs stream place)

-- The input is a chain. The certificates before this index keep every rule, and this is the first
-- rule that the certificate at this index breaks.
pub record Refused (t : Terms) (limit : ℕ) (stream : List ℕ) (place : ℕ) (rule : Rule) : Type 0
  where
    pub certificates : List PlainCertificate
    pub within : place < length certificates
    pub chain : Chain t.bound limit certificates stream
    pub kept : all_kept_below t certificates stream place ≡ true
    pub first : find (λ other. not (keeps_at other t certificates stream place)) in_order
        ≡ Some rule

-- The input has this error after `place` certificates, whose total length is `offset`.
pub record Faulty (t : Terms) (limit : ℕ) (stream : List ℕ) (place offset : ℕ)
    (kind : FaultKind) : Type 0 where
  pub certificates : List PlainCertificate
  pub found : SeriesFault (raw_certificate t.bound) limit stream certificates kind
  pub place_is : place ≡ length certificates
  pub offset_is : offset ≡ length (joined t.bound certificates)

-- The verdict on an input: its error, that it is empty, that it is trusted, or its first breach.
abbrev pub IsVerdict : Terms → ℕ → List ℕ → Verdict → Type 0
IsVerdict t limit stream (verdicts.StreamFault place offset kind) =
    Faulty t limit stream place offset kind
IsVerdict t limit stream verdicts.Empty = stream ≡ []
IsVerdict t limit stream verdicts.Trusted = Trusted t limit stream
IsVerdict t limit stream (verdicts.Refused place rule) = Refused t limit stream place rule

-- The number of questions under the keys of trust anchors with the issuer's name, up to the first
-- accepted one.
abbrev pub asked_until : ℕ → Answers → List ℕ → PlainCertificate → List PlainAnchor → ℕ
asked_until bound answers signed c [] = 0
asked_until bound answers signed c (a ∷ more) =
    if is_named bound c a
    then (if accepted answers signed c a.key then 1
    else 1 + asked_until bound answers signed c more)
    else asked_until bound answers signed c more

-- The number of questions about the signature of the certificate at an index.
abbrev pub asked_signature : Terms → List PlainCertificate → List ℕ → ℕ → ℕ
asked_signature t cs stream zero = option_map_or
    (λ c. asked_until t.bound t.answers (signed_part t.bound cs stream 0 c) c t.anchors)
    (slice_get cs 0) 0
asked_signature t cs stream (suc before) = 1

-- The number of questions about the certificates before this index. A certificate is asked about
-- only if it and all before it keep the other rules.
abbrev pub asked_below : Terms → List PlainCertificate → List ℕ → ℕ → ℕ
asked_below t cs stream zero = 0
asked_below t cs stream (suc place) = asked_below t cs stream place
    + (if all_kept_below t cs stream place && may_ask t cs stream place
    then asked_signature t cs stream place else 0)

-- The number of questions about all certificates of a chain.
unfoldable pub asked : Terms → List PlainCertificate → List ℕ → ℕ
asked t cs stream = asked_below t cs stream (length cs)

-- The count after n more questions. It stays at 2^64 - 1.
abbrev pub raised : ℕ → ℕ → ℕ
raised old n = max old (min (old + n) (2 ^ 64 - 1))

-- The verifier is asked n times about an input: for the certificates of a chain, or never if the
-- input isn't one.
pub record Asks (t : Terms) (limit : ℕ) (stream : List ℕ) (n : ℕ) : Type 0 where
  pub chain : (cs : List PlainCertificate) → Chain t.bound limit cs stream → n
      ≡ asked_below t cs stream (length cs)
  pub fault : ((cs : List PlainCertificate) → Chain t.bound limit cs stream → ⊥) → n ≡ 0

-- The verifier was asked as often as the input requires, and the result reports that number.
pub record IsCounted (t : Terms) (limit : ℕ) (stream : List ℕ) (checked : Checked)
    (old_questions new_questions : ℕ) : Type 0 where
  pub number_asked : ℕ
  pub asks : Asks t limit stream number_asked
  pub calls : checked.calls ≡ min number_asked (2 ^ 64 - 1)
  pub questions : new_questions ≡ raised old_questions number_asked

-- An allocation failed at a certificate whose extensions may need memory. The certificates before
-- it keep every rule, and the verifier was asked as often as they need.
pub record StopsAsking (t : Terms) (limit : ℕ) (stream : List ℕ) (old new : ℕ) : Type 0 where
  pub certificates : List PlainCertificate
  pub chain : Chain t.bound limit certificates stream
  pub place : ℕ
  pub within : place < length certificates
  pub takes : may_take_memory (extensions_at certificates place) ≡ true
  pub kept : all_kept_below t certificates stream place ≡ true
  pub questions : new ≡ raised old (asked_below t certificates stream place)
