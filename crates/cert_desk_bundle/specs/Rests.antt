-- Changes of the bytes after the last certificate.
use Rattle.std.specs.Prelude.{◌≡◌, ℕ, ◌<◌, ◌≤◌, List, [], ◌++◌, length, take, Option, Some, None}
use Rattle.std.specs.Global.{Vec}
use Rattle.cert_desk_bundle.specs.declared.rest.Rest.{Rest}
use Rattle.cert_desk_bundle.specs.declared.standing.Standing.{Standing}
use Rattle.cert_desk_bundle.specs.declared.standing.Standing.TheVariants as standings
use Rattle.cert_desk_bundle.specs.Headers.{HasWhole, Awaits, IsEarlyFault}

-- These bytes are kept, and no certificate is complete.
pub record IsLeft (limit offset : ℕ) (octets : List ℕ) (new : Rest) : Type 0 where
  pub kept : new.octets.items ≡ octets
  pub awaits : Awaits limit offset octets new.wanted

-- No bytes are kept, because they are a complete SEQUENCE.
pub record IsSplit (limit offset : ℕ) (octets : List ℕ) (new : Rest) (whole : List ℕ) : Type 0 where
  pub octets_are : whole ≡ octets
  pub has_whole : HasWhole limit offset octets (length octets)
  pub none : new.octets.items ≡ []
  pub wanted : new.wanted ≡ 1

-- These bytes are all that has arrived. They are kept, or they are a complete SEQUENCE.
abbrev pub IsCompleted : ℕ → ℕ → List ℕ → Rest → Option (Vec ℕ) → Type 0
IsCompleted limit offset octets new None = IsLeft limit offset octets new
IsCompleted limit offset octets new (Some whole) = IsSplit limit offset octets new whole.items

-- The first `count` bytes of a piece were consumed.
pub record IsTaken (limit offset : ℕ) (old new : Rest) (piece : List ℕ) (count : ℕ)
    (whole : Option (Vec ℕ)) : Type 0 where
  pub some : 0 < count
  pub within : count ≤ length piece
  pub completed : IsCompleted limit offset (old.octets.items ++ take count piece) new whole

-- Why bytes can't be consumed.
abbrev pub IsUntaken : ℕ → ℕ → List ℕ → Standing → Type 0
IsUntaken limit offset octets standings.Open = ⊥
IsUntaken limit offset octets standings.Ended = ⊥
IsUntaken limit offset octets (standings.Faulted kind) = IsEarlyFault limit offset octets kind
IsUntaken limit offset octets standings.NoMemory = Unit {0}
IsUntaken limit offset octets standings.NoDevice = ⊥
