-- Laws about every issued chain.
use Rattle.std.specs.Prelude.{◌≡◌, ℕ, ◌+◌, ◌-◌, ◌≤◌, ◌<◌, List, [], ◌∷◌, length, map, true, false}
use Rattle.std.specs.Prelude.{Some, slice_get, Bool, None, ◌==◌}
use Rattle.cert_desk_listing.specs.Oid.Bound.{Bound}
use Rattle.cert_desk_listing.specs.Der.BitStrings.{Bits}
use Rattle.cert_desk_orders.specs.Types.Seconds.{unix_seconds}
use Rattle.cert_desk_listing.specs.CertCertificates.Certificates.{PlainCertificate}
use Rattle.cert_desk_listing.specs.CertCertificates.Certificates.{certificate_octets}
use Rattle.cert_desk_listing.specs.CertCertificates.Certificates.{extensions_of, outer_algorithm}
use Rattle.cert_desk_listing.specs.CertCertificates.Certificates.{signature_bits, tbs}
use Rattle.cert_desk_orders.specs.CertParts.Grammar.{Algorithm, PublicKey, PlainExtension}
use Rattle.cert_desk_orders.specs.CertParts.Grammar.{is_critical}
use Rattle.cert_desk_checking.specs.DeskRules.declared.rule.Rule.{Rule}
use Rattle.cert_desk_checking.specs.DeskRules.declared.rule.Rule.TheVariants as rules
use Rattle.cert_desk_checking.specs.DeskRules.Judging.{Answers, PlainAnchor, Terms, signed_part}
use Rattle.cert_desk_checking.specs.DeskRules.Paths.{is_within}
use Rattle.cert_desk_checking.specs.DeskRules.Verdicts.{Refused, Trusted}
use Rattle.cert_desk_orders.specs.declared.order.Order.{Order}
use Rattle.cert_desk.specs.Allowances.{AreLasting, Suffices, allows, allows_one}
use Rattle.cert_desk.specs.Allowances.{counted_orders, counts_order, path_in}
use Rattle.cert_desk.specs.Chains.{HoldsOrders, IssuedChain}
use Rattle.cert_desk.specs.Ordered.{part_octets, dns_names}
use Rattle.cert_desk.specs.PlainOrders.{PlainOrder, begins, ends}
use Rattle.cert_desk.specs.Roles.{place_above, role_at}
use Rattle.x509_cert_builders.specs.Profiles.{authority_uses, digital_signature}
use Rattle.x509_cert_builders.specs.Profiles as profiles
use Rattle.cert_desk_checking.specs.DeskRules.Weighing.{Meaning, constraints, other_names, purposes}
use Rattle.cert_desk_checking.specs.DeskRules.Weighing.{unweighed, uses, weigh}
use Rattle.cert_desk.specs.declared.role.Role.{Role}
use Rattle.cert_desk.specs.declared.role.Role.TheVariants as roles
use Rattle.cert_desk_checking.specs.Issuers.{as_anchor}

-- The verifier accepts the signature at each index, under the key of the order whose signer made
-- it.
abbrev pub AreAnswered : Answers → List PlainOrder → List PlainCertificate → Type 0
AreAnswered answers ps cs =
    (place : ℕ) (above : PlainOrder) (c : PlainCertificate) → slice_get ps (place_above place)
    ≡ Some above → slice_get cs place ≡ Some c
    → answers above.key (outer_algorithm c) (part_octets (tbs c)) (signature_bits c) ≡ true

-- Each certificate is within the size limit.
abbrev pub AreWithin : ℕ → List PlainCertificate → Type 0
AreWithin limit cs = (place : ℕ) (c : PlainCertificate) → slice_get cs place ≡ Some c
    → length (certificate_octets Bound c) ≤ limit

-- The order of a root as a trust anchor.
abbrev pub anchor_of : PlainOrder → PlainAnchor
anchor_of root = record { name = root.subject; key = root.key }

-- The first of these certificates as the only trust anchor.
abbrev pub root_anchors : List PlainCertificate → List PlainAnchor
root_anchors [] = []
root_anchors (c ∷ cs) = as_anchor c ∷ []

-- The terms with the root as the only trust anchor.
abbrev pub terms_for : PlainOrder → ℕ → List ℕ → Answers → Terms
terms_for root moment purpose answers =
    record {
      bound = Bound;
      anchors = anchor_of root ∷ [];
      moment = moment;
      purpose = purpose;
      answers = answers;
    }

-- The conditions of a check under which the chain is trusted.
pub record Permits (limit moment : ℕ) (purpose : List ℕ) (answers : Answers) (ps : List PlainOrder)
    (cs : List PlainCertificate) : Type 0 where
  pub within : AreWithin limit cs
  pub lasting : AreLasting moment ps
  pub allowed : allows purpose ps ≡ true
  pub sufficient : Suffices ps
  pub answered : AreAnswered answers ps cs

-- A chain that fulfils orders is trusted under its own root if the validation time is within all
-- dates, the orders allow the key purpose, their path lengths are large enough, each certificate is
-- within the size limit, and the verifier accepts each signature.
abbrev pub HeldIsTrusted : Type 0
HeldIsTrusted =
    (root : PlainOrder) (below : List PlainOrder) (cs : List PlainCertificate) (stream : List ℕ)
    (limit moment : ℕ) (purpose : List ℕ) (answers : Answers)
    → HoldsOrders (root ∷ below) cs stream → Permits limit moment purpose answers (root ∷ below) cs
    → Trusted (terms_for root moment purpose answers) limit stream

-- A chain that fulfils orders is trusted under its own root only if these conditions are met.
abbrev pub TrustedIsPermitted : Type 0
TrustedIsPermitted =
    (root : PlainOrder) (below : List PlainOrder) (cs : List PlainCertificate) (stream : List ℕ)
    (limit moment : ℕ) (purpose : List ℕ) (answers : Answers)
    → HoldsOrders (root ∷ below) cs stream → Trusted (terms_for root moment purpose answers) limit
    stream
    → Permits limit moment purpose answers (root ∷ below) cs

-- The verifier accepts every signature that these signers may return, under the key of the order at
-- the signer's index.
pub record AcceptsSigners {S : Type 0} (algorithm : S → Algorithm) (signs : S → List ℕ → Bits
    → Type 0) (answers : Answers) (ps : List PlainOrder) (signers : List S) : Type 0 where
  pub yes : (place : ℕ) (p : PlainOrder) (s : S) (octets : List ℕ) (bits : Bits)
      → slice_get ps place ≡ Some p → slice_get signers place ≡ Some s → signs s octets bits
      → answers p.key (algorithm s) octets bits ≡ true

-- An issued chain is trusted under its own root if the verifier accepts every signature that its
-- signers may return, and the other conditions are met.
abbrev pub IssuedIsTrusted : {S : Type 0} → (S → PublicKey) → (S → Algorithm)
    → (S → List ℕ → Bits → Type 0) → Type 0
IssuedIsTrusted {S = S} key algorithm signs =
    (orders : List Order) (signers : List S) (stream : List ℕ) (root : PlainOrder)
    (below : List PlainOrder) (limit moment : ℕ) (purpose : List ℕ) (answers : Answers)
    → (issued : IssuedChain key algorithm signs orders signers stream) → issued.asked ≡ root ∷ below
    → AreWithin limit issued.certificates → AreLasting moment issued.asked
    → allows purpose issued.asked ≡ true → Suffices issued.asked
    → AcceptsSigners algorithm signs answers issued.asked signers
    → Trusted (terms_for root moment purpose answers) limit stream

-- The path length of an order before an index is less than the number of indexes after it that
-- count, up to this one, which counts.
pub record IsTooFar (ps : List PlainOrder) (place : ℕ) : Type 0 where
  pub counts : counts_order ps place ≡ true
  pub before : ℕ
  pub earlier : before < place
  pub order : PlainOrder
  pub order_is : slice_get ps before ≡ Some order
  pub exceeded : is_within (counted_orders ps (before + 1) (place - before))
      (path_in (role_at (length ps) before) order) ≡ false

module _ (moment : ℕ) (purpose : List ℕ) (answers : Answers) (ps : List PlainOrder)
    (cs : List PlainCertificate) (place : ℕ) where
  -- The reason why a chain that fulfils orders breaks a rule at an index: the validation time, the
  -- key purpose, a path length, or the verifier's answer. No other rule is broken.
  abbrev pub BreaksFor : Rule → Type 0
  BreaksFor rules.NotYetValid = (p : PlainOrder) × (slice_get ps place ≡ Some p)
      × (moment < unix_seconds (begins p))
  BreaksFor rules.Expired = (p : PlainOrder) × (slice_get ps place ≡ Some p)
      × (unix_seconds (ends p) < moment)
  BreaksFor rules.AgainstPurpose = (p : PlainOrder) × (slice_get ps place ≡ Some p) × (0 < place)
      × (allows_one purpose p ≡ false)
  BreaksFor rules.PathTooLong = IsTooFar ps place
  BreaksFor rules.WrongSignature = (above : PlainOrder) × (c : PlainCertificate)
      × (slice_get ps (place_above place) ≡ Some above) × (slice_get cs place ≡ Some c)
      × (answers above.key (outer_algorithm c) (part_octets (tbs c)) (signature_bits c) ≡ false)
  BreaksFor _ = ⊥

-- A chain that fulfils orders is rejected only for these reasons.
abbrev pub HeldIsRefusedFor : Type 0
HeldIsRefusedFor =
    (root : PlainOrder) (below : List PlainOrder) (cs : List PlainCertificate) (stream : List ℕ)
    (limit moment : ℕ) (purpose : List ℕ) (answers : Answers) (place : ℕ) (rule : Rule)
    → HoldsOrders (root ∷ below) cs stream → Refused (terms_for root moment purpose answers) limit
    stream place rule
    → BreaksFor moment purpose answers (root ∷ below) cs place rule

-- The bytes of the chain that the verifier gets at an index are the encoding of the TBSCertificate
-- there.
abbrev pub SignedIsSliced : Type 0
SignedIsSliced =
    (ps : List PlainOrder) (cs : List PlainCertificate) (stream : List ℕ) (place : ℕ)
    (c : PlainCertificate)
    → HoldsOrders ps cs stream → slice_get cs place ≡ Some c → signed_part Bound cs stream place c
    ≡ part_octets (tbs c)

-- The criticality of an extension, and its meaning.
abbrev pub Told : Type 0
Told = Bool × Meaning

-- The criticality and the meaning of an extension.
abbrev pub told : PlainExtension → Told
told e = (is_critical e, weigh Bound e)

-- The ordered extensions of a role, in order.
abbrev pub told_for : Role → PlainOrder → List Told
told_for roles.Root p = (false, unweighed) ∷ (true, constraints true None)
    ∷ (true, uses (authority_uses p.answers)) ∷ (false, unweighed) ∷ []
told_for roles.Subordinate p =
    (false, unweighed) ∷ (true, constraints true p.path) ∷ (true, uses (authority_uses p.answers))
    ∷ (false, unweighed) ∷ (false, purposes (profiles.purposes p.clients)) ∷ []
told_for roles.Subscriber p =
    (length p.subject == 0, other_names (dns_names p.dns)) ∷ (false, unweighed)
    ∷ (false, purposes (profiles.purposes p.clients)) ∷ (true, constraints false None)
    ∷ (true, uses digital_signature) ∷ []

-- The extensions of a certificate have the ordered content.
abbrev pub SaysAsOrdered : Type 0
SaysAsOrdered =
    (root : PlainOrder) (below : List PlainOrder) (cs : List PlainCertificate) (stream : List ℕ)
    (place : ℕ) (p : PlainOrder) (c : PlainCertificate)
    → HoldsOrders (root ∷ below) cs stream → slice_get (root ∷ below) place ≡ Some p
    → slice_get cs place ≡ Some c
    → map told (extensions_of c) ≡ told_for (role_at (length (root ∷ below)) place) p
