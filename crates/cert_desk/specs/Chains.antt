-- Issued chains.
use Rattle.std.specs.Prelude.{◌≡◌, ℕ, List, length, map, Some, slice_get}
use Rattle.std.specs.List.{AllByRecursion}
use Rattle.cert_desk_listing.specs.Oid.Bound.{Bound}
use Rattle.cert_desk_listing.specs.Der.Limits.{length_max}
use Rattle.cert_desk_listing.specs.Der.BitStrings.{Bits}
use Rattle.cert_desk_listing.specs.CertCertificates.Certificates.{PlainCertificate, outer_algorithm}
use Rattle.cert_desk_listing.specs.CertCertificates.Certificates.{signature_bits}
use Rattle.cert_desk_listing.specs.CertCertificates.Certificates.{certificate_octets, tbs}
use Rattle.cert_desk_orders.specs.CertParts.Grammar.{Algorithm, PublicKey}
use Rattle.cert_desk_checking.specs.DeskBundle.Chains.{Chain, Stands}
use Rattle.cert_desk_orders.specs.declared.order.Order.{Order}
use Rattle.cert_desk.specs.Acceptance.{AcceptedOrders}
use Rattle.cert_desk.specs.Ordered.{ordered_part, part_octets}
use Rattle.cert_desk.specs.PlainOrders.{IsRight, PlainOrder}
use Rattle.cert_desk.specs.Roles.{place_above, role_at}

-- The certificate is the one that the order at an index asks for, with some signature algorithm.
pub record IsOrderedAt (ps : List PlainOrder) (place : ℕ) (c : PlainCertificate) : Type 0 where
  pub order : PlainOrder
  pub above : PlainOrder
  pub order_is : slice_get ps place ≡ Some order
  pub right : IsRight (role_at (length ps) place) order
  pub above_is : slice_get ps (place_above place) ≡ Some above
  pub part : tbs c ≡ ordered_part (role_at (length ps) place) order above (outer_algorithm c)

-- Each certificate is the one that the order at its index asks for.
abbrev pub HoldFront : List PlainOrder → List PlainCertificate → Type 0
HoldFront ps cs = (place : ℕ) (c : PlainCertificate) → slice_get cs place ≡ Some c
    → IsOrderedAt ps place c

module _ {S : Type 0} (algorithm : S → Algorithm) (signs : S → List ℕ → Bits → Type 0) where
  -- Both algorithms of the certificate at an index are its signer's, and its bits are a signature
  -- of that signer over its own TBSCertificate.
  pub record IsSignedBy (signers : List S) (place : ℕ) (c : PlainCertificate) : Type 0 where
    pub signer : S
    pub signer_is : slice_get signers (place_above place) ≡ Some signer
    pub algorithm_is : outer_algorithm c ≡ algorithm signer
    pub signed : signs signer (part_octets (tbs c)) (signature_bits c)

  -- Each certificate is signed by its signer.
  abbrev pub AreSigned : List S → List PlainCertificate → Type 0
  AreSigned signers cs = (place : ℕ) (c : PlainCertificate) → slice_get cs place ≡ Some c
      → IsSignedBy signers place c

  -- The first certificates of the chain: each is the ordered one, is signed by its signer, and has
  -- an encoding.
  pub record AreMade (ps : List PlainOrder) (signers : List S) (cs : List PlainCertificate) : Type 0
    where
      pub held : HoldFront ps cs
      pub signed : AreSigned signers cs
      pub each : AllByRecursion (Stands Bound length_max) cs

  -- The certificate is the one that the order at an index asks for, it is signed, and these are its
  -- bytes.
  pub record IsMadeAt (ps : List PlainOrder) (signers : List S) (place : ℕ) (c : PlainCertificate)
      (octets : List ℕ) : Type 0 where
    pub ordered : IsOrderedAt ps place c
    pub signed : IsSignedBy signers place c
    pub stands : Stands Bound length_max c
    pub octets_are : octets ≡ certificate_octets Bound c

-- The chain fulfils these orders: its certificates are the ordered ones, one for each order, and
-- its bytes are their concatenation.
pub record HoldsOrders (ps : List PlainOrder) (cs : List PlainCertificate) (stream : List ℕ) : Type
    0 where
  pub count : length cs ≡ length ps
  pub chain : Chain Bound length_max cs stream
  pub held : HoldFront ps cs

-- The orders are accepted. The bytes are those of a chain that fulfils them, each certificate of
-- which is signed by its signer.
pub record IssuedChain {S : Type 0} (key : S → PublicKey) (algorithm : S → Algorithm)
    (signs : S → List ℕ → Bits → Type 0) (orders : List Order) (signers : List S)
    (stream : List ℕ) : Type 0 where
  pub asked : List PlainOrder
  pub certificates : List PlainCertificate
  pub accepted : AcceptedOrders orders (map key signers) asked
  pub holds : HoldsOrders asked certificates stream
  pub signed : AreSigned algorithm signs signers certificates
