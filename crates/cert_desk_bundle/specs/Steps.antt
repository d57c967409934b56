-- Changes of a bundle.
use Rattle.std.specs.Prelude.{◌≡◌, ◌≢◌, ℕ, ◌+◌, ◌≤◌, ◌<◌, ◌^◌, ◌⊎◌, List, [], ◌++◌, length, take}
use Rattle.cert_desk_io.specs.Devices.{one_more}
use Rattle.x509_cert_certificates.specs.Certificates.{PlainCertificate, raw_certificate}
use Rattle.cert_desk_bundle.specs.declared.bundle_error.BundleError.{BundleError}
use Rattle.cert_desk_bundle.specs.declared.bundle_error.BundleError.TheVariants as errors
use Rattle.cert_desk_bundle.specs.declared.bundle_error.ReadError.{ReadError}
use Rattle.cert_desk_bundle.specs.declared.bundle_error.ReadError.TheVariants as reads
use Rattle.cert_desk_bundle.specs.declared.fault_kind.FaultKind.{FaultKind}
use Rattle.cert_desk_bundle.specs.declared.fault_kind.FaultKind.TheVariants as kinds
use Rattle.cert_desk_bundle.specs.declared.standing.Standing.{Standing}
use Rattle.cert_desk_bundle.specs.declared.standing.Standing.TheVariants as standings
use Rattle.cert_desk_bundle.specs.Chains.{joined}
use Rattle.cert_desk_bundle.specs.Faults.{IsFault}
use Rattle.cert_desk_bundle.specs.Series.{BeginsSeries}
use Rattle.cert_desk_bundle.specs.Streams.{Kept, Reads}

-- The bytes that a bundle keeps.
abbrev pub kept_octets : ℕ → Kept → List ℕ
kept_octets bound b = joined bound b.certificates ++ b.rest

-- If the old bundle is the result of reading some input, the new one is the result of reading that
-- input and these bytes.
abbrev pub ReadsExtended : ℕ → Kept → Kept → List ℕ → Type 0
ReadsExtended bound old new octets = (stream : List ℕ) → Reads bound old stream
    → Reads bound new (stream ++ octets)

-- The certificates stay, and others may follow them.
abbrev pub Grows : Kept → Kept → Type 0
Grows old new = (more : List PlainCertificate) × (new.certificates ≡ old.certificates ++ more)

-- These bytes are consumed, and more may come.
pub record Advances (bound : ℕ) (old new : Kept) (octets : List ℕ) : Type 0 where
  pub is_open : new.standing ≡ standings.Open
  pub limit : new.limit ≡ old.limit
  pub grows : Grows old new
  pub kept : kept_octets bound new ≡ kept_octets bound old ++ octets
  pub fits : length (kept_octets bound new) < 2 ^ 64 + 5
  pub reads : ReadsExtended bound old new octets

-- That many bytes of a piece are consumed.
pub record TakesFront (bound : ℕ) (old new : Kept) (piece : List ℕ) (count : ℕ) : Type 0 where
  pub some : 0 < count
  pub within : count ≤ length piece
  pub advances : Advances bound old new (take count piece)

-- The state in which a bundle stops, because the bytes after its certificates can't be accepted.
abbrev pub StopsBy : ℕ → Kept → List ℕ → Standing → Type 0
StopsBy bound old octets standings.Open = ⊥
StopsBy bound old octets standings.Ended = ⊥
StopsBy bound old octets (standings.Faulted kind) = (kind ≢ kinds.Truncated)
    × IsFault (raw_certificate bound) old.limit (length (joined bound old.certificates)) kind octets
StopsBy bound old octets standings.NoMemory = Unit {0}
StopsBy bound old octets standings.NoDevice = ⊥

-- The bundle stops in this state, keeps its certificates, and doesn't accept the bytes.
pub record Stops (bound : ℕ) (old new : Kept) (octets : List ℕ) (standing : Standing) : Type 0 where
  pub limit : new.limit ≡ old.limit
  pub certificates : new.certificates ≡ old.certificates
  pub why : StopsBy bound old octets standing

-- A bundle that stopped in this state. It keeps no bytes of an incomplete certificate.
abbrev pub stopped : Kept → Standing → Kept
stopped b standing = record b { rest = []; standing = standing }

-- A bundle that stopped at an error, with the numbers of certificates and bytes before it.
pub record IsFoundAt (bound : ℕ) (new : Kept) (place offset : ℕ) (kind : FaultKind) : Type 0 where
  pub standing : new.standing ≡ standings.Faulted kind
  pub place_is : place ≡ length new.certificates
  pub offset_is : offset ≡ length (joined bound new.certificates)

-- The error that reports this state of a bundle.
abbrev pub error_of : ℕ → Kept → Standing → BundleError
error_of bound b standings.Open = errors.OutOfMemory
error_of bound b standings.Ended = errors.OutOfMemory
error_of bound b (standings.Faulted kind) =
    errors.Fault (length b.certificates) (length (joined bound b.certificates)) kind
error_of bound b standings.NoMemory = errors.OutOfMemory
error_of bound b standings.NoDevice = errors.OutOfMemory

-- The reason why a piece is rejected: there is an error in it or in the bytes before it together
-- with it, memory ran out, or the bundle wasn't open.
abbrev pub RefusesPiece : ℕ → Kept → Kept → List ℕ → BundleError → Type 0
RefusesPiece bound old new piece (errors.Fault place offset kind) =
    (old.standing ≡ standings.Open) × IsFoundAt bound new place offset kind
    × (kind ≢ kinds.Truncated) × ReadsExtended bound old new piece
RefusesPiece bound old new piece errors.OutOfMemory =
    (old.standing ≡ standings.Open) × (new.standing ≡ standings.NoMemory)
    × ((stream : List ℕ) → Reads bound old stream
    → BeginsSeries (raw_certificate bound) new.limit new.certificates (stream ++ piece))
RefusesPiece bound old new piece errors.Failed = (old.standing ≢ standings.Open) × (new ≡ old)

-- If the old bundle is the result of reading some input, so is the new one.
abbrev pub ReadsUnchanged : ℕ → Kept → Kept → Type 0
ReadsUnchanged bound old new = (stream : List ℕ) → Reads bound old stream → Reads bound new stream

-- The bundle neither accepts pieces nor has read its input to the end.
abbrev pub HasFailed : Standing → Type 0
HasFailed standing = (standing ≢ standings.Open) × (standing ≢ standings.Ended)

-- The reason why a bundle can't end: the input ends inside a certificate, or the bundle had failed.
abbrev pub RefusesEnd : ℕ → Kept → Kept → BundleError → Type 0
RefusesEnd bound old new (errors.Fault place offset kind) =
    (old.standing ≡ standings.Open) × IsFoundAt bound new place offset kind
    × (kind ≡ kinds.Truncated) × ReadsUnchanged bound old new
RefusesEnd bound old new errors.OutOfMemory = ⊥
RefusesEnd bound old new errors.Failed = HasFailed old.standing × (new ≡ old)

-- The input gave some bytes, and the new bundle has read them after all that the old one had read.
abbrev pub Takes : {State : Type 0} → (State → List ℕ → State → Type 0) → State → State → ℕ → Kept
    → Kept → Type 0
Takes takes from to bound old new = (octets : List ℕ) × takes from octets to
    × ReadsExtended bound old new octets

-- An input over a call: the bytes that it gives between two states, the states in which the last
-- read met the end, the number of failed reads, and the states before and after the call.
module _ {State : Type 0} (takes : State → List ℕ → State → Type 0) (is_ended : State → Type 0)
    (failures : State → ℕ) (from to : State) (bound : ℕ) where
  -- The last read stops an open bundle: the read failed and gave nothing, or it succeeded and the
  -- bundle rejects its piece or the end that it met.
  abbrev pub LastStops : State → Kept → Kept → List ℕ → ReadError → Type 0
  LastStops before now new piece reads.Device =
      (piece ≡ []) × (is_ended to → ⊥) × (failures to ≡ one_more (failures before))
      × (new ≡ record now { rest = []; standing = standings.NoDevice })
  LastStops before now new piece (reads.Bundle e) = (failures to ≡ failures before)
      × (RefusesPiece bound now new piece e
      ⊎ ((piece ≡ []) × is_ended to × RefusesEnd bound now new e))

  -- A bundle that still accepted pieces has read all bytes before the last read, so no byte was
  -- requested after the cause of the stop.
  pub record StopsAtLast (old new : Kept) (e : ReadError) : Type 0 where
    pub was_open : old.standing ≡ standings.Open
    pub before : State
    pub octets : List ℕ
    pub moved : takes from octets before
    pub sound : failures before ≡ failures from
    pub now : Kept
    pub is_open : now.standing ≡ standings.Open
    pub limit : now.limit ≡ old.limit
    pub reads : ReadsExtended bound old now octets
    pub piece : List ℕ
    pub short : length piece ≤ 4096  -- the most bytes that one read gives
    pub last : takes before piece to
    pub whole : takes from (octets ++ piece) to
    pub stops : LastStops before now new piece e

  -- The reason why an input isn't read to its end.
  abbrev pub RefusesInput : Kept → Kept → ReadError → Type 0
  RefusesInput old new (reads.Bundle errors.Failed) =
      (old.standing ≢ standings.Open) × (new ≡ old) × (to ≡ from)
  RefusesInput old new e = StopsAtLast old new e
