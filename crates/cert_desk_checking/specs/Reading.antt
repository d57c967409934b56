-- The result of reading an input into a bundle.
use Rattle.std.specs.Prelude.{◌≡◌, ◌≢◌, ℕ, ◌≤◌, List, length}
use Rattle.x509_cert_anchors.specs.Oid.Bound.{Bound}
use Rattle.cert_desk_rules.specs.DeskIo.Devices.{Device, Moved, MetEnd, Sound, Fails}
use Rattle.x509_cert_anchors.specs.CertCertificates.Certificates.{PlainCertificate, raw_certificate}
use Rattle.cert_desk_rules.specs.DeskBundle.declared.fault_kind.FaultKind.{FaultKind}
use Rattle.cert_desk_rules.specs.DeskBundle.declared.fault_kind.FaultKind.TheVariants as kinds
use Rattle.cert_desk_rules.specs.DeskBundle.declared.standing.Standing.{Standing}
use Rattle.cert_desk_rules.specs.DeskBundle.declared.standing.Standing.TheVariants as standings
use Rattle.cert_desk_rules.specs.DeskBundle.Faults.{Split, StreamFault}
use Rattle.cert_desk_rules.specs.DeskBundle.Series.{BeginsSeries}
use Rattle.cert_desk_rules.specs.DeskBundle.Streams.{Kept, Reads}

-- These bytes have no error, except that they may end too early.
abbrev pub MayGoOn : ℕ → List ℕ → Type 0
MayGoOn limit octets = (cs : List PlainCertificate) (kind : FaultKind) → kind ≢ kinds.Truncated
    → StreamFault Bound limit octets cs kind → ⊥

-- No byte was requested after the read that stopped the reading. The bytes before that read have no
-- error, except that they may end too early, and the read gave at most 4096 bytes.
pub record AsksNoMore (input : Device) (limit : ℕ) : Type 0 where
  pub before : input.State
  pub octets : List ℕ
  pub taken : input.moves input.old octets before
  pub sound : MayGoOn limit octets
  pub piece : List ℕ
  pub last : input.moves before piece input.new
  pub short : length piece ≤ 4096

-- Exactly the last read failed. The bytes before it have no error, except that they may end too
-- early.
abbrev pub ReadFailed : Device → ℕ → Type 0
ReadFailed input limit = (octets : List ℕ) × Fails input octets × MayGoOn limit octets

-- A new bundle has read an input to its end or to an error in it, or until memory ran out or a read
-- failed. A read failed only in the last case. If memory ran out, the certificates are a prefix of
-- those with which the bytes begin. If a read failed, they are all of these.
abbrev pub FedUnder : Device → Kept → Standing → Type 0
FedUnder input b standings.Open = ⊥
FedUnder input b standings.Ended = (octets : List ℕ) × Moved input octets × Reads Bound b octets
    × MetEnd input × Sound input
FedUnder input b (standings.Faulted kind) =
    (octets : List ℕ) × Moved input octets × Reads Bound b octets
    × (kind ≡ kinds.Truncated → MetEnd input) × AsksNoMore input b.limit × Sound input
FedUnder input b standings.NoMemory = (octets : List ℕ) × Moved input octets
    × BeginsSeries (raw_certificate Bound) b.limit b.certificates octets
    × AsksNoMore input b.limit × Sound input
FedUnder input b standings.NoDevice =
    (octets : List ℕ) × Fails input octets × MayGoOn b.limit octets
    × ((rest : List ℕ) × Split Bound b.limit octets b.certificates rest)

-- A new bundle has read an input, with the result that its state reports.
abbrev pub IsFed : Device → Kept → Type 0
IsFed input b = FedUnder input b b.standing
