-- Orders for which a chain is issued, unless an allocation fails.
use Rattle.std.specs.Prelude.{◌≡◌, ℕ, ◌<◌, ◌≤◌, List, length, map, None}
use Rattle.std.specs.Bool.{⊤}
use Rattle.cert_desk_listing.specs.Oid.Bound.{Bound}
use Rattle.cert_desk_listing.specs.Der.BitStrings.{Bits, IsBits}
use Rattle.cert_desk_listing.specs.Der.Shapes.{IsValid}
use Rattle.cert_desk_orders.specs.CertParts.Grammar.{Algorithm, PublicKey}
use Rattle.cert_desk_listing.specs.CertCertificates.Certificates.{Tbs, certificate}
use Rattle.cert_desk_orders.specs.declared.order.Order.{Order}
use Rattle.cert_desk.specs.declared.issue_error.IssueError.{IssueError}
use Rattle.cert_desk.specs.declared.issue_error.IssueError.TheVariants as errors
use Rattle.cert_desk.specs.declared.role.Role.{Role}
use Rattle.cert_desk.specs.Acceptance.{AcceptedOrders}
use Rattle.cert_desk.specs.Ordered.{part_octets}
use Rattle.cert_desk.specs.PlainOrders.{PlainOrder}
use Rattle.cert_desk.specs.Refusals.{HasPart, HoldsAt, MayBeTooLong, Refuses}

-- No length exceeds 2^32 - 1: the subscriber's names, the TBSCertificate, and the certificate with
-- every signature that its signer may return, have encodings.
abbrev pub IsShort : (List ℕ → Bits → Type 0) → Algorithm → Role → List (List ℕ) → Tbs → Type 0
IsShort signs a role dns t = HasPart role dns t
    × ((bits : Bits) → IsBits bits → signs (part_octets t) bits
    → IsValid (certificate Bound None) (t, (a, (bits, tt))))

-- All orders are accepted, and `P` holds at each index.
pub record AreAcceptedWith {S : Type 0} (key : S → PublicKey) (algorithm : S → Algorithm)
    (P : S → Role → PlainOrder → Tbs → Type 0) (orders : List Order) (signers : List S) : Type 0
  where
    pub asked : List PlainOrder
    pub accepted : AcceptedOrders orders (map key signers) asked
    pub each : (place : ℕ) → place < length asked → HoldsAt algorithm P asked signers place

module _ {S : Type 0} (key : S → PublicKey) (algorithm : S → Algorithm)
    (signs : S → List ℕ → Bits → Type 0) (may_refuse : S → List ℕ → Type 0) where
  -- All orders are accepted, no signer may refuse what is ordered at its index, and no length
  -- exceeds 2^32 - 1.
  abbrev pub AreIssuable : List Order → List S → Type 0
  AreIssuable = AreAcceptedWith key algorithm (λ s role p t. (may_refuse s (part_octets t) → ⊥)
      × IsShort (signs s) (algorithm s) role p.dns t)

  -- Such orders are rejected only when an allocation fails.
  abbrev pub IssuableIsIssued : Type 0
  IssuableIsIssued = (orders : List Order) (signers : List S) (e : IssueError)
      → AreIssuable orders signers → Refuses key algorithm signs may_refuse orders signers e
      → e ≡ errors.OutOfMemory

-- All orders are accepted, no signer may refuse what is ordered at its index, and no length exceeds
-- 2^32 - 1 before the signature is added.
abbrev pub AreSignable : {S : Type 0} → (S → PublicKey) → (S → Algorithm) → (S → List ℕ → Type 0)
    → List Order → List S → Type 0
AreSignable key algorithm may_refuse =
    AreAcceptedWith key algorithm (λ s role p t. (may_refuse s (part_octets t) → ⊥)
    × HasPart role p.dns t)

-- The reason why such orders may be rejected: an allocation fails, or a signer returns bits that
-- are too long.
abbrev pub IsMemoryOrLong : {S : Type 0} → (S → Algorithm) → (S → List ℕ → Bits → Type 0)
    → List PlainOrder → List S → IssueError → Type 0
IsMemoryOrLong algorithm signs asked signers errors.OutOfMemory = ⊤
IsMemoryOrLong algorithm signs asked signers (errors.TooLong place) =
    HoldsAt algorithm (λ s role p t. MayBeTooLong (signs s) (algorithm s) t) asked signers place
IsMemoryOrLong algorithm signs asked signers _ = ⊥

-- A certificate that has an encoding with some bits has one with any bits of no more bytes. So one
-- certificate decides for a signer whose bits have at most a given number of bytes.
abbrev pub ShorterBitsFit : Type 0
ShorterBitsFit = (t : Tbs) (a : Algorithm) (longest bits : Bits)
    → IsValid (certificate Bound None) (t, (a, (longest, tt))) → IsBits bits
    → length bits.octets ≤ length longest.octets
    → IsValid (certificate Bound None) (t, (a, (bits, tt)))
