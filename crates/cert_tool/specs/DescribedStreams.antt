-- How `describe stream` reads a stream: each certificate is described and then dropped. The
-- contracts don't say which texts are printed.
use Rattle.std.specs.Prelude.{◌≡◌, ℕ, ◌+◌, ◌<◌, ◌≤◌, ◌^◌, ◌⊎◌, List, [], ◌++◌, length, Bool, true}
use Rattle.std.specs.Prelude.{false, Option, Some, Result, Ok, Err}
use Rattle.cert_tool_explain.specs.Oid.Bound.{Bound}
use Rattle.cert_tool_explain.specs.DeskIo.Devices.{Device, Fails, MetEnd, Moved, Sound}
use Rattle.cert_tool_explain.specs.DeskRules.declared.checked.Verdict.TheVariants as verdicts
use Rattle.cert_tool_explain.specs.DeskBundle.declared.bundle_error.BundleError.{BundleError}
use Rattle.cert_tool_explain.specs.DeskBundle.declared.bundle_error.BundleError.TheVariants as errors
use Rattle.cert_tool_explain.specs.DeskBundle.declared.fault_kind.FaultKind.TheVariants as kinds
use Rattle.cert_tool_explain.specs.DeskBundle.declared.standing.Standing.{Standing}
use Rattle.cert_tool_explain.specs.DeskBundle.declared.standing.Standing.TheVariants as standings
use Rattle.cert_tool_explain.specs.DeskBundle.Chains.{joined}
use Rattle.cert_tool_explain.specs.DeskBundle.Streams.{Kept, Reads}
use Rattle.cert_tool_explain.specs.DeskChecking.declared.outcome.Outcome.{Outcome}
use Rattle.cert_tool_explain.specs.DeskChecking.declared.outcome.Outcome.TheVariants as outcomes
use Rattle.cert_tool.specs.declared.each_certificate.DescribedSoFar.{DescribedSoFar}
use Rattle.cert_tool.specs.EarlyEnds.{FedWithin, stop_of, without_questions}

-- The calls moved some bytes, and none of them failed.
abbrev pub HasMoved : Device → Type 0
HasMoved d = (octets : List ℕ) × Moved d octets × Sound d

-- The last call failed, and no call before it did.
abbrev pub HasFailed : Device → Type 0
HasFailed d = (octets : List ℕ) × Fails d octets

-- The reason why a text wasn't written: a write failed, or memory ran out.
abbrev pub IsUnwritten : Device → Outcome → Type 0
IsUnwritten out outcomes.Device = HasFailed out
IsUnwritten out outcomes.OutOfMemory = HasMoved out
IsUnwritten out _ = ⊥

-- The stream is read, and descriptions are written. `ended` is the error of a bundle that is fed
-- with the same stream, if it has one; or it is the I/O error of a write.
abbrev pub IsDescribedStream : Device → Device → ℕ → Option Outcome → Type 0
IsDescribedStream stream out limit ended =
    ((kept : Kept) × FedWithin stream limit kept × (ended ≡ stop_of kept) × HasMoved out)
    ⊎ ((ended ≡ Some outcomes.Device) × HasMoved stream × HasFailed out)

-- One read returned this piece without an error. It is empty at the end of the input.
pub record IsRead (stream : Device) (piece : List ℕ) : Type 0 where
  pub moved : Moved stream piece
  pub sound : Sound stream
  pub short : length piece ≤ 4096
  pub ended : piece ≡ [] → MetEnd stream

-- The bundle has this limit and this state, and it has read these bytes.
pub record HasDecoded (limit : ℕ) (b : Kept) (standing : Standing) (octets : List ℕ) : Type 0 where
  pub limit_is : b.limit ≡ limit
  pub standing_is : b.standing ≡ standing
  pub reads : Reads Bound b octets

-- The result of feeding a bundle with one more piece after these bytes; an empty piece is the end.
-- The result says whether more may follow.
abbrev pub HasTaken : ℕ → Kept → List ℕ → List ℕ → Result Bool BundleError → Type 0
HasTaken limit b octets piece (Ok true) = HasDecoded limit b standings.Open (octets ++ piece)
HasTaken limit b octets piece (Ok false) =
    (piece ≡ []) × HasDecoded limit b standings.Ended (octets ++ piece)
HasTaken limit b octets piece (Err (errors.Fault place offset kind)) =
    (kind ≡ kinds.Truncated → piece ≡ [])
    × HasDecoded limit b (standings.Faulted kind) (octets ++ piece)
HasTaken limit b octets piece (Err _) = Unit {0}

-- The counts `new` are the counts `old` and the certificates of the bundle, and another certificate
-- could be counted.
pub record AreCountsAfter (old : DescribedSoFar) (b : Kept) (new : DescribedSoFar) : Type 0 where
  pub count_is : new.count ≡ old.count + length b.certificates
  pub octets_is : new.octets ≡ old.octets + length (joined Bound b.certificates)
  pub room : new.octets + b.limit < 2 ^ 64

-- The outcome for an error of the bundle after these certificates.
abbrev pub stop_after : DescribedSoFar → BundleError → Outcome
stop_after passed (errors.Fault place offset kind) =
    without_questions (verdicts.StreamFault passed.count passed.octets kind)
stop_after passed _ = outcomes.OutOfMemory
