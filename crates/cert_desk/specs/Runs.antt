-- The outcome of a run of `issue`, and the text that reports it.
use Rattle.std.specs.Prelude.{◌≡◌, ◌≢◌, ℕ, ◌⊎◌, List, Some, length, map, take}
use Rattle.cert_desk_listing.specs.DeskIo.declared.exit_status.ExitStatus.{ExitStatus}
use Rattle.cert_desk_listing.specs.DeskIo.declared.exit_status.ExitStatus.TheVariants as statuses
use Rattle.cert_desk_listing.specs.DeskIo.declared.read_all_error.ReadAllError.TheVariants as reasons
use Rattle.cert_desk_listing.specs.DeskIo.Devices.{Device, Untouched}
use Rattle.cert_desk_listing.specs.DeskIo.Telling.{IsAnswer, IsComplaint, IsDeviceTold}
use Rattle.cert_desk_listing.specs.DeskIo.Telling.{IsMemoryTold}
use Rattle.cert_desk_listing.specs.DeskIo.Whole.{IsWhole, IsUnread, most_octets}
use Rattle.cert_desk_orders.specs.CertParts.Grammar.{PublicKey}
use Rattle.cert_desk_orders.specs.CertParts.Views.{key_plain}
use Rattle.cert_desk_orders.specs.OrdersFile.{SaysOrders, faulty_line}
use Rattle.cert_desk_orders.specs.declared.order.Order.{Order}
use Rattle.cert_desk.specs.declared.digest_signer.DigestSigner.{DigestSigner}
use Rattle.cert_desk.specs.declared.issue_error.IssueError.TheVariants as errors
use Rattle.cert_desk.specs.declared.outcome.Outcome.{Outcome}
use Rattle.cert_desk.specs.declared.outcome.Outcome.TheVariants as outcomes
use Rattle.cert_desk.specs.Chains.{IssuedChain}
use Rattle.cert_desk.specs.DigestSigners.{digest_algorithm, IsDigestOf}
use Rattle.cert_desk.specs.Issuable.{AreIssuable}
use Rattle.cert_desk.specs.Lines.{refusal_line, fault_line}
use Rattle.cert_desk.specs.Refusals.{Refuses}
use Rattle.cert_desk.specs.Roles.{signers_for}

-- The public key of an order.
abbrev pub key_of : Order → PublicKey
key_of o = key_plain o.key

-- The key of a signer.
abbrev pub signer_key : DigestSigner → PublicKey
signer_key s = key_plain s.key

-- The keys that sign: that of a single order, or those of all orders but the last.
abbrev pub signing_keys : List Order → List PublicKey
signing_keys orders = map key_of (take (signers_for (length orders)) orders)

-- The outcome for orders whose own keys sign, with digests: a chain that fulfils them, or the
-- reason why there is none. Such a signer rejects nothing. The outcome is `Refused` only if an
-- order isn't accepted or a length doesn't fit, and never if memory ran out.
abbrev pub OrdersBecome : List Order → Outcome → Type 0
OrdersBecome orders (outcomes.Issued issued) =
    (signers : List DigestSigner) × (map signer_key signers ≡ signing_keys orders)
    × IssuedChain signer_key (λ s. digest_algorithm) (λ s. IsDigestOf (signer_key s)) orders signers
    issued.stream
OrdersBecome orders (outcomes.Refused error) =
    (signers : List DigestSigner) × (map signer_key signers ≡ signing_keys orders)
    × Refuses signer_key (λ s. digest_algorithm) (λ s. IsDigestOf (signer_key s)) (λ s octets. ⊥)
    orders signers error
    × (error ≢ errors.OutOfMemory)
    × (AreIssuable signer_key (λ s. digest_algorithm) (λ s. IsDigestOf (signer_key s))
    (λ s octets. ⊥) orders signers → ⊥)
OrdersBecome orders (outcomes.BadLine line) = ⊥
OrdersBecome orders outcomes.Device = ⊥
OrdersBecome orders outcomes.OutOfMemory = Unit {0}

-- The outcome for the bytes of an orders file: that for its orders, or its first wrong line.
abbrev pub OctetsBecome : List ℕ → Outcome → Type 0
OctetsBecome octets (outcomes.Issued issued) =
    (orders : List Order) × SaysOrders octets orders × OrdersBecome orders (outcomes.Issued issued)
OctetsBecome octets (outcomes.Refused error) =
    (orders : List Order) × SaysOrders octets orders × OrdersBecome orders (outcomes.Refused error)
OctetsBecome octets (outcomes.BadLine line) = faulty_line octets ≡ Some line
OctetsBecome octets outcomes.Device = ⊥
OctetsBecome octets outcomes.OutOfMemory = Unit {0}

-- The outcome for an orders file: that for its bytes, if it was read to its end; its first line if
-- it has too many bytes; or the reason why it wasn't read.
abbrev pub FileBecomes : Device → Outcome → Type 0
FileBecomes input (outcomes.Issued issued) =
    (octets : List ℕ) × IsWhole input most_octets octets
    × OctetsBecome octets (outcomes.Issued issued)
FileBecomes input (outcomes.Refused error) =
    (octets : List ℕ) × IsWhole input most_octets octets
    × OctetsBecome octets (outcomes.Refused error)
FileBecomes input (outcomes.BadLine line) =
    ((octets : List ℕ) × IsWhole input most_octets octets
    × OctetsBecome octets (outcomes.BadLine line))
    ⊎ (IsUnread input most_octets reasons.TooMuch × (line ≡ 1))
FileBecomes input outcomes.Device = IsUnread input most_octets reasons.Device
FileBecomes input outcomes.OutOfMemory = ((octets : List ℕ) × IsWhole input most_octets octets)
    ⊎ IsUnread input most_octets reasons.OutOfMemory

-- The report of an outcome, and the exit status. If memory runs out for the text, that is reported
-- in its place.
abbrev pub IsTold : Device → Device → Outcome → ExitStatus → Type 0
IsTold out err (outcomes.Issued issued) answer = IsAnswer out err issued.stream statuses.Done answer
IsTold out err (outcomes.Refused error) answer =
    Untouched out
    × (IsComplaint err (refusal_line error) statuses.Refused answer ⊎ IsMemoryTold err answer)
IsTold out err (outcomes.BadLine line) answer =
    Untouched out
    × (IsComplaint err (fault_line line) statuses.Arguments answer ⊎ IsMemoryTold err answer)
IsTold out err outcomes.Device answer = Untouched out × IsDeviceTold err answer
IsTold out err outcomes.OutOfMemory answer = Untouched out × IsMemoryTold err answer
