-- The bytes that an input gives in several reads are read one after another.
use Rattle.std.proofs.Common.{◌≡◌, ◌⊎◌, inl, inr, ℕ, ◌≤◌, List, [], ◌++◌, length, take, refl, arith, subst, append_assoc, append-nil, length-take}
use Rattle.cert_desk_io.specs.Devices.{one_more}
use Rattle.cert_desk_bundle.specs.declared.bundle_error.BundleError.{BundleError}
use Rattle.cert_desk_bundle.specs.declared.bundle_error.BundleError.TheVariants as errors
use Rattle.cert_desk_bundle.specs.declared.bundle_error.ReadError.{ReadError}
use Rattle.cert_desk_bundle.specs.declared.bundle_error.ReadError.TheVariants as reads
use Rattle.cert_desk_bundle.specs.declared.standing.Standing.{Standing}
use Rattle.cert_desk_bundle.specs.declared.standing.Standing.TheVariants as standings
use Rattle.cert_desk_bundle.specs.Streams.{Kept, Reads}
use Rattle.cert_desk_bundle.specs.Steps.{ReadsExtended, ReadsUnchanged, stopped, Takes, LastStops, StopsAtLast, RefusesPiece, RefusesEnd, RefusesInput}

module _ {State : Type 0} (takes : State → List ℕ → State → Type 0)
    (in_turn : (a b c : State) (first second : List ℕ) → takes a first b → takes b second c → takes a (first ++ second) c)
    (from mid to : State) (bound : ℕ) (old now new : Kept) (before : Takes takes from mid bound old now) where
  -- A piece is read after the bytes before it.
  pub Takes-more : (piece : List ℕ) → takes mid piece to → ReadsExtended bound now new piece → Takes takes from to bound old new
  Takes-more piece taken on = (
    before.0 ++ piece,
    in_turn from mid to before.0 piece before.1 taken,
    λ stream reads. subst (λ (x : List ℕ). Reads bound new x) (append_assoc stream before.0 piece) (on (stream ++ before.0) (before.2 stream reads)),
  )

  -- A read that gives nothing changes nothing.
  pub Takes-still : takes mid [] to → ReadsUnchanged bound now new → Takes takes from to bound old new
  Takes-still taken still = (
    before.0,
    subst (λ (x : List ℕ). takes from x to) (append-nil before.0) (in_turn from mid to before.0 [] before.1 taken),
    λ stream reads. still (stream ++ before.0) (before.2 stream reads),
  )

  module _ (is_ended : State → Type 0) (failures : State → ℕ) (was_open : old.standing ≡ standings.Open) (is_open : now.standing ≡ standings.Open) (limit : now.limit ≡ old.limit)
      (sound : failures mid ≡ failures from) where
    -- The bytes before the last read have been read.
    at_last : (e : ReadError) (piece : List ℕ) → length piece ≤ 4096 → takes mid piece to → LastStops takes is_ended failures from to bound mid now new piece e
        → StopsAtLast takes is_ended failures from to bound old new e
    at_last e piece short taken stops = record {
      was_open = was_open;
      before = mid;
      octets = before.0;
      moved = before.1;
      sound = sound;
      now = now;
      is_open = is_open;
      limit = limit;
      reads = before.2;
      piece = piece;
      short = short;
      last = taken;
      whole = in_turn from mid to before.0 piece before.1 taken;
      stops = stops;
    }

    pub device_fails : takes mid [] to → new ≡ stopped now standings.NoDevice → (is_ended to → ⊥) → failures to ≡ one_more (failures mid) → RefusesInput takes is_ended failures from to bound old new reads.Device
    device_fails taken same not_ended once = at_last reads.Device [] (omega arith) taken (refl, not_ended, once, same)

    pub end-refused : (e : BundleError) → failures to ≡ failures mid → takes mid [] to → is_ended to → RefusesEnd bound now new e → RefusesInput takes is_ended failures from to bound old new (reads.Bundle e)
    end-refused (errors.Fault place offset kind) still taken ended r = at_last (reads.Bundle (errors.Fault place offset kind)) [] (omega arith) taken (still, inr (refl, ended, r))
    end-refused errors.OutOfMemory still taken ended r = absurd r
    end-refused errors.Failed still taken ended r = absurd (r.0.0 is_open)

    pub piece-refused : (e : BundleError) (piece : List ℕ) → failures to ≡ failures mid → length piece ≤ 4096 → takes mid piece to → RefusesPiece bound now new piece e → RefusesInput takes is_ended failures from to bound old new (reads.Bundle e)
    piece-refused (errors.Fault place offset kind) piece still short taken r = at_last (reads.Bundle (errors.Fault place offset kind)) piece short taken (still, inl r)
    piece-refused errors.OutOfMemory piece still short taken r = at_last (reads.Bundle errors.OutOfMemory) piece short taken (still, inl r)
    piece-refused errors.Failed piece still short taken r = absurd (r.0 is_open)

-- A read gives no more bytes than its buffer has.
pub short_piece : (count : ℕ) (buffer : List ℕ) → length buffer ≡ 4096 → length (take count buffer) ≤ 4096
short_piece count buffer e = omega (arith, e, length-take count buffer)
