-- The certificates that orders ask for, with signatures that are made elsewhere.
use Rattle.std.specs.Prelude.{◌≡◌, ◌≢◌, ◌≤◌, ◌<◌, ◌⊎◌, ℕ, List, [], length, map, take}
use Rattle.std.specs.Prelude.{None, Some, slice_get}
use Rattle.std.specs.List.{AllByRecursion}
use Rattle.cert_desk_orders.specs.Oid.Bound.{Bound}
use Rattle.cert_desk_orders.specs.Der.BitStrings.{Bits}
use Rattle.cert_desk_orders.specs.Der.Limits.{length_max}
use Rattle.cert_desk_orders.specs.Der.Shapes.{Spells}
use Rattle.cert_desk_orders.specs.CertParts.Grammar.{Algorithm, PublicKey, algorithm_identifier}
use Rattle.cert_desk_orders.specs.CertParts.Views.{algorithm_plain, key_plain}
use Rattle.x509_cert_builders.specs.CertCertificates.Certificates.{PlainCertificate}
use Rattle.x509_cert_builders.specs.CertCertificates.Certificates.{certificate_octets}
use Rattle.x509_cert_builders.specs.CertCertificates.Certificates.{outer_algorithm, signature_bits}
use Rattle.x509_cert_builders.specs.CertCertificates.Certificates.{tbs}
use Rattle.cert_desk_checking.specs.DeskIo.declared.exit_status.ExitStatus.{ExitStatus}
use Rattle.cert_desk_checking.specs.DeskIo.declared.exit_status.ExitStatus.TheVariants as statuses
use Rattle.cert_desk_checking.specs.DeskBundle.Chains.{Stands}
use Rattle.cert_desk_orders.specs.declared.order.Order.{Order}
use Rattle.cert_desk_orders.specs.OrdersFile.{SaysOrders, faulty_line}
use Rattle.cert_desk.specs.declared.issue_error.IssueError.{IssueError}
use Rattle.cert_desk.specs.declared.issue_error.IssueError.TheVariants as errors
use Rattle.cert_desk.specs.Acceptance.{AcceptedOrders}
use Rattle.cert_desk.specs.Chains.{HoldFront}
use Rattle.cert_desk.specs.Ordered.{part_octets}
use Rattle.cert_desk.specs.PlainOrders.{PlainOrder}
use Rattle.cert_desk.specs.Refusals.{Refuses}
use Rattle.cert_desk.specs.Roles.{signers_for}
use Rattle.cert_desk.specs.Runs.{key_of, signing_keys}
use Rattle.cert_desk_issuing_c.specs.declared.given_signer.GivenSigner.{GivenSigner}

-- All bits of these bytes.
abbrev pub all_bits : List ℕ → Bits
all_bits octets = record { unused = 0; octets = octets }

-- There is one certificate for each of these orders, which is the ordered one and has an encoding,
-- with this algorithm and these bits as its signature.
pub record HoldEach (said : List Order) (algorithm : Algorithm) (bits : Bits)
    (cs : List PlainCertificate) : Type 0 where
  pub asked : List PlainOrder
  pub accepted : AcceptedOrders said (signing_keys said) asked
  pub count : length cs ≡ length said
  pub held : HoldFront asked cs
  pub each : AllByRecursion (Stands Bound length_max) cs
  pub algorithms : (place : ℕ) (c : PlainCertificate) → slice_get cs place ≡ Some c
      → outer_algorithm c ≡ algorithm
  pub signatures : (place : ℕ) (c : PlainCertificate) → slice_get cs place ≡ Some c
      → signature_bits c ≡ bits

-- The public key of a signer with a fixed signature.
abbrev pub given_key : GivenSigner → PublicKey
given_key signer = key_plain signer.key.now

-- The algorithm of a signer with a fixed signature.
abbrev pub given_algorithm : GivenSigner → Algorithm
given_algorithm signer = algorithm_plain signer.algorithm.now

-- The bits are the fixed signature of the signer.
abbrev pub gives : GivenSigner → List ℕ → Bits → Type 0
gives signer octets bits = bits ≡ signer.signature.now

-- A signer with a fixed signature, as its values.
pub record PlainSigner : Type 0 where
  pub key : PublicKey
  pub algorithm : Algorithm
  pub bits : Bits

-- The values of a signer with a fixed signature.
abbrev pub signer_plain : GivenSigner → PlainSigner
signer_plain signer = record {
  key = given_key signer;
  algorithm = given_algorithm signer;
  bits = signer.signature.now;
}

-- The signer for an order.
abbrev pub signer_for : Algorithm → Bits → Order → PlainSigner
signer_for algorithm bits o = record { key = key_of o; algorithm = algorithm; bits = bits }

-- There is a signer with this algorithm and these bits for each order whose key signs, in order.
abbrev pub AreSigners : List Order → Algorithm → Bits → List GivenSigner → Type 0
AreSigners said algorithm bits signers = map signer_plain signers
    ≡ map (signer_for algorithm bits) (take (signers_for (length said)) said)

-- The reason why no chain is issued for these orders with this algorithm and these bits.
abbrev pub RefusesEach : List Order → Algorithm → Bits → IssueError → Type 0
RefusesEach said algorithm bits error =
    (signers : List GivenSigner) × AreSigners said algorithm bits signers
    × Refuses given_key given_algorithm gives (λ signer octets. ⊥) said signers error

-- The bytes are an orders file and an algorithm, and `Says` holds for their values.
abbrev pub UnderOrders : List ℕ → List ℕ → (List Order → Algorithm → Type 0) → Type 0
UnderOrders orders algorithm Says =
    (said : List Order) × (a : Algorithm) × SaysOrders orders said
    × Spells (algorithm_identifier Bound) a algorithm × Says said a

-- The certificates are those that an orders file asks for, in order, with this algorithm and these
-- bytes as each signature.
abbrev pub AreOrdered : List ℕ → List ℕ → List ℕ → List PlainCertificate → Type 0
AreOrdered orders algorithm signature cs =
    UnderOrders orders algorithm (λ said a. HoldEach said a (all_bits signature) cs)

-- The bytes are the encoding of the certificate at this index of the chain that an orders file asks
-- for, with this algorithm and these bytes as each signature.
abbrev pub IsIssued : List ℕ → ℕ → List ℕ → List ℕ → List ℕ → Type 0
IsIssued orders place algorithm signature octets =
    (cs : List PlainCertificate) × (c : PlainCertificate) × AreOrdered orders algorithm signature cs
    × (slice_get cs place ≡ Some c) × (octets ≡ certificate_octets Bound c)

-- The bytes are the encoding of the TBSCertificate at this index of the chain that an orders file
-- asks for, with this algorithm and empty signatures (RFC 5280 4.1.1.3).
abbrev pub IsSignedPart : List ℕ → ℕ → List ℕ → List ℕ → Type 0
IsSignedPart orders place algorithm octets =
    (cs : List PlainCertificate) × (c : PlainCertificate) × AreOrdered orders algorithm [] cs
    × (slice_get cs place ≡ Some c) × (octets ≡ part_octets (tbs c))

-- The reason why there is no certificate: the orders are rejected, there is none at the index, or
-- an argument is wrong.
abbrev pub AreRefusedFor : List ℕ → List ℕ → List ℕ → IssueError → Type 0
AreRefusedFor orders algorithm signature error =
    UnderOrders orders algorithm (λ said a. RefusesEach said a (all_bits signature) error)
    × (error ≢ errors.OutOfMemory) × (length signature ≤ length_max)

-- The orders are rejected for some reason.
abbrev pub AreRefused : List ℕ → List ℕ → List ℕ → Type 0
AreRefused orders algorithm signature =
    (error : IssueError) × AreRefusedFor orders algorithm signature error

-- The chain of the orders is too short for the index.
abbrev pub IsBeyond : List ℕ → ℕ → List ℕ → List ℕ → Type 0
IsBeyond orders place algorithm signature =
    (cs : List PlainCertificate) × AreOrdered orders algorithm signature cs × (length cs ≤ place)

-- The bytes aren't the encoding of an AlgorithmIdentifier (RFC 5280 4.1.1.2).
abbrev pub IsNoAlgorithm : List ℕ → Type 0
IsNoAlgorithm octets = (a : Algorithm) → Spells (algorithm_identifier Bound) a octets → ⊥

-- The orders file or the algorithm is wrong, or the signature is too long.
abbrev pub AreFaulty : List ℕ → List ℕ → List ℕ → Type 0
AreFaulty orders algorithm signature =
    (faulty_line orders ≢ None) ⊎ IsNoAlgorithm algorithm ⊎ (length_max < length signature)

-- The status for that reason, or that memory ran out.
abbrev pub IsFault : Type 0 → ExitStatus → Type 0
IsFault Why status = ((status ≡ statuses.Arguments) × Why) ⊎ (status ≡ statuses.Memory)

-- The status if there is no chain: the orders are rejected, an argument is wrong, or memory ran
-- out.
abbrev pub IsRefusal : List ℕ → List ℕ → List ℕ → ExitStatus → Type 0
IsRefusal orders algorithm signature status =
    ((status ≡ statuses.Refused) × AreRefused orders algorithm signature)
    ⊎ IsFault (AreFaulty orders algorithm signature) status

-- The status if there is no certificate at the index.
abbrev pub IsRefusalAt : List ℕ → ℕ → List ℕ → List ℕ → ExitStatus → Type 0
IsRefusalAt orders place algorithm signature status =
    ((status ≡ statuses.Empty) × IsBeyond orders place algorithm signature)
    ⊎ IsRefusal orders algorithm signature status
