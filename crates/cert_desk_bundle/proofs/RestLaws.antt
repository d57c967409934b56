-- Laws about the bytes after the last certificate, when more are consumed.
use Rattle.std.proofs.Common.{◌≡◌, ℕ, ◌+◌, ◌-◌, ◌<◌, List, [], ◌++◌, length, take, None, arith, append_assoc, length-append}
use Rattle.std.proofs.lemmas.List.{take_all}
use Rattle.cert_desk_bundle.specs.declared.rest.Rest.{Rest}
use Rattle.cert_desk_bundle.specs.declared.standing.Standing.{Standing}
use Rattle.cert_desk_bundle.specs.declared.standing.Standing.TheVariants as standings
use Rattle.cert_desk_bundle.specs.Headers.{Awaits}
use Rattle.cert_desk_bundle.specs.Rests.{IsTaken, IsUntaken}
use Rattle.cert_desk_bundle.proofs.Scans.{awaits_more}
use Rattle.cert_desk_bundle.proofs.FaultStays.{early_stays}

module _ (limit offset : ℕ) (old new : Rest) (piece : List ℕ) (awaits : Awaits limit offset old.octets.items old.wanted) where
  -- Fewer bytes than are missing.
  pub taken_short : 0 < length piece → length piece < old.wanted - length old.octets.items → new.octets.items ≡ old.octets.items ++ piece → new.wanted ≡ old.wanted
      → IsTaken limit offset old new piece (length piece) None
  taken_short some short kept same =
      let all : take (length piece) piece ≡ piece = take_all (length piece) piece (omega arith) in
      let longer : length (old.octets.items ++ piece) < old.wanted = omega (arith, length-append old.octets.items piece) in
      record {
        some = some;
        within = omega arith;
        completed = rw all (record { kept = kept; awaits = rw same (awaits_more limit offset old.octets.items piece old.wanted awaits longer) });
      }

-- Bytes that are rejected are also rejected when more follow.
pub untaken_more : (limit offset : ℕ) (rest front more : List ℕ) (standing : Standing) → IsUntaken limit offset (rest ++ front) standing → IsUntaken limit offset (rest ++ (front ++ more)) standing
untaken_more limit offset rest front more standings.Open h = h
untaken_more limit offset rest front more standings.Ended h = h
untaken_more limit offset rest front more (standings.Faulted kind) h = rw (← append_assoc rest front more) (early_stays limit offset (rest ++ front) more kind h)
untaken_more limit offset rest front more standings.NoMemory h = h
untaken_more limit offset rest front more standings.NoDevice h = h
