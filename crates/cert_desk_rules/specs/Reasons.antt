-- Why a certificate breaks a rule, for rules that can be broken in several ways.
use Rattle.std.specs.Prelude.{◌≡◌, ℕ, ◌<◌, ◌≤◌, ◌⊎◌, List, Bool, true, false, not, ◌&&◌}
use Rattle.std.specs.Prelude.{slice_get}
use Rattle.std.specs.Bool.{⊤}
use Rattle.std.specs.List.{list_any}
use Rattle.std.specs.Option.{option_map_or}
use Rattle.cert_desk_bundle.specs.Oid.Comparing.{owned_eq}
use Rattle.cert_desk_bundle.specs.CertCertificates.Certificates.{PlainCertificate}
use Rattle.cert_desk_bundle.specs.CertParts.Grammar.{PlainExtension, extension_arcs, is_critical}
use Rattle.cert_desk_rules.specs.declared.findings.Findings.{Findings}
use Rattle.cert_desk_rules.specs.declared.reason.Reason.{Reason}
use Rattle.cert_desk_rules.specs.declared.reason.Reason.TheVariants as reasons
use Rattle.cert_desk_rules.specs.declared.rule.Rule.{Rule}
use Rattle.cert_desk_rules.specs.declared.rule.Rule.TheVariants as rules
use Rattle.cert_desk_rules.specs.Paths.{extensions_at, keeps_length}
use Rattle.cert_desk_rules.specs.Weighing.{is_authority, is_malformed, is_unweighed}
use Rattle.cert_desk_rules.specs.Weighing.{may_certify, may_take_memory, serves, weigh}

-- The extension alone breaks a rule.
abbrev pub is_against : ℕ → List ℕ → Rule → PlainExtension → Bool
is_against bound purpose rules.MalformedExtension e = is_malformed (weigh bound e)
is_against bound purpose rules.UnweighedCritical e = is_critical e && is_unweighed (weigh bound e)
is_against bound purpose rules.AgainstPurpose e = not (serves purpose (weigh bound e))
is_against bound purpose rules.NotAuthority e = not (may_certify (weigh bound e))
is_against bound purpose _ e = false

-- Some extension breaks a rule, according to the findings.
abbrev pub goes_against : Findings → Rule → Bool
goes_against f rules.MalformedExtension = f.malformed
goes_against f rules.UnweighedCritical = f.unweighed_critical
goes_against f rules.AgainstPurpose = not f.serves
goes_against f rules.NotAuthority = not f.certifies
goes_against f _ = false

-- The element at an index exists and passes a test.
abbrev pub is_at : {A : Type 0} → (A → Bool) → List A → ℕ → Bool
is_at test xs number = option_map_or test (slice_get xs number) false

-- The element at an index is the first one that passes a test.
abbrev pub IsFirstAt : {A : Type 0} → (A → Bool) → List A → ℕ → Type 0
IsFirstAt test xs number = (is_at test xs number ≡ true)
    × ((other : ℕ) → other < number → is_at test xs other ≡ false)

-- Two extensions have the same OID (RFC 5280 4.2).
abbrev pub have_one_identifier : PlainExtension → PlainExtension → Bool
have_one_identifier e other = owned_eq (extension_arcs e) (extension_arcs other)

-- The extensions at two indexes have the same OID (RFC 5280 4.2).
abbrev pub are_twins : List PlainExtension → ℕ → ℕ → Bool
are_twins es first second = is_at (λ e. is_at (have_one_identifier e) es second) es first

-- The first pair of extensions with the same OID, in the order of the first index and then of the
-- second.
abbrev pub AreFirstTwins : List PlainExtension → ℕ → ℕ → Type 0
AreFirstTwins es first second = (first < second) × (are_twins es first second ≡ true)
    × ((one other : ℕ) → one < other → (one < first) ⊎ ((one ≡ first) × (other < second))
    → are_twins es one other ≡ false)

-- No extension makes the subject a CA (RFC 5280 4.2.1.9).
abbrev pub has_no_authority : ℕ → List PlainExtension → Bool
has_no_authority bound es = not (list_any (λ e. is_authority (weigh bound e)) es)

-- The reason is true of the certificate at an index, and the rule is broken for it.
abbrev pub Explains : ℕ → List ℕ → List PlainCertificate → ℕ → Rule → Reason → Type 0
Explains bound purpose cs place rule (reasons.Extension number) =
    is_at (is_against bound purpose rule) (extensions_at cs place) number ≡ true
Explains bound purpose cs place rule (reasons.Twins first second) =
    (rule ≡ rules.DuplicateExtension) × (first < second)
    × (are_twins (extensions_at cs place) first second ≡ true)
Explains bound purpose cs place rule reasons.NoConstraints = (rule ≡ rules.NotAuthority)
    × (has_no_authority bound (extensions_at cs place) ≡ true)
Explains bound purpose cs place rule (reasons.PathLength before) =
    (rule ≡ rules.PathTooLong) × (before < place) × (keeps_length bound cs before place ≡ false)

-- The order of the reasons for one breach. Extensions are in the order of the certificate, pairs in
-- the order of their first and then their second index, and path lengths in the order of the chain.
-- The absence of basic constraints comes before an extension.
abbrev pub Precedes : Reason → Reason → Type 0
Precedes (reasons.Extension one) (reasons.Extension other) = one < other
Precedes (reasons.Twins first second) (reasons.Twins other_first other_second) =
    (first < other_first) ⊎ ((first ≡ other_first) × (second < other_second))
Precedes reasons.NoConstraints (reasons.Extension number) = ⊤
Precedes (reasons.PathLength one) (reasons.PathLength other) = one < other
Precedes _ _ = ⊥

-- The reason is true, and no earlier one is.
abbrev pub ExplainsFirst : ℕ → List ℕ → List PlainCertificate → ℕ → Rule → Reason → Type 0
ExplainsFirst bound purpose cs place rule reason =
    Explains bound purpose cs place rule reason
    × ((other : Reason) → Precedes other reason → ¬ Explains bound purpose cs place rule other)

-- The rules for which a reason can be reported.
abbrev pub is_explained : Rule → Bool
is_explained rules.DuplicateExtension = true
is_explained rules.MalformedExtension = true
is_explained rules.UnweighedCritical = true
is_explained rules.AgainstPurpose = true
is_explained rules.NotAuthority = true
is_explained rules.PathTooLong = true
is_explained _ = false

-- Checking the extensions of a certificate up to this index may allocate.
abbrev pub SomeMayTakeMemory : List PlainCertificate → ℕ → Type 0
SomeMayTakeMemory cs place = (other : ℕ) × (other ≤ place)
    × (may_take_memory (extensions_at cs other) ≡ true)
