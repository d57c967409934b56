-- Laws about frames and their four-byte lengths, and about reads that follow one another.
use Rattle.std.proofs.Common.{◌≡◌, ℕ, ◌<◌, ◌≤◌, ◌^◌, ◌⊎◌, inl, inr, List, [], ◌∷◌, ◌++◌, length, get_or, take, drop, length-append, refl, sym, ap, subst, ◌∙◌, arith, Some}
use Rattle.std.specs.Int.{from_be_bytes, w32}
use Rattle.std.proofs.lemmas.Nat.{be_bytes_4, from_be_bytes-to_be_bytes_4}
use Rattle.cert_desk_io.specs.Devices.{Fails, source}
use Rattle.cert_desk_io.specs.declared.frame_error.FrameError.{FrameError}
use Rattle.cert_desk_io.specs.declared.frame_error.FrameError.TheVariants as errors
use Rattle.cert_desk_io.specs.Frames.{IsNext, IsStopped, IsTaken, IsUnread, frame, number_octets}

-- Four bytes are the encoding of the number that they have.
pub number_of : (bytes : List ℕ) (n : ℕ) → length bytes ≡ 4 → ((i : ℕ) → get_or bytes i 0 < 256) → n ≡ from_be_bytes w32 bytes → number_octets n ≡ bytes
number_of bytes n len fits is = be_bytes_4 bytes n len fits is

-- At most four bytes that begin with a length are the length alone.
pub alone : (octets rest : List ℕ) (count : ℕ) → octets ≡ number_octets count ++ rest → length octets ≤ 4 → octets ≡ number_octets count
alone octets [] count is few = is
alone octets (x ∷ xs) count is few = absurd (omega (arith, ap length is))

-- Numbers with equal encodings are equal.
pub same_number : (a b : ℕ) → a < 2 ^ 32 → b < 2 ^ 32 → number_octets a ≡ number_octets b → a ≡ b
same_number a b small_a small_b e = sym (from_be_bytes-to_be_bytes_4 a small_a) ∙ ap (from_be_bytes w32) e ∙ from_be_bytes-to_be_bytes_4 b small_b

-- Fewer than four bytes don't begin with a frame.
pub too_few : (octets content rest : List ℕ) → length octets < 4 → octets ≡ frame content ++ rest → ⊥
too_few octets content rest few is = omega (arith, ap length is)

-- If fewer bytes follow a length than it says, the bytes don't begin with a frame.
pub no_frame : (octets behind content rest : List ℕ) (count : ℕ) → octets ≡ number_octets count ++ behind → count < 2 ^ 32 → length behind < count → length content < 2 ^ 32 → octets ≡ frame content ++ rest → ⊥
no_frame octets behind content rest count begins small few short is =
    let whole : number_octets count ++ behind ≡ frame content ++ rest = sym begins ∙ is in
    let number : count ≡ length content = same_number count (length content) small short (ap (take 4) whole) in
    let left : behind ≡ content ++ rest = ap (drop 4) whole in
    omega (arith, few, number, ap length left, length-append content rest)

-- The encoding of a length isn't empty.
pub begun : (count : ℕ) (rest : List ℕ) → number_octets count ++ rest ≡ [] → ⊥
begun count rest e = omega (arith, ap length e)

-- No more bytes were read than requested.
pub within : (n most : ℕ) (E : Type 0) → (n ≡ most) ⊎ ((n < most) × E) → n ≤ most
within n most E (inl e) = omega (arith, e)
within n most E (inr x) = omega (arith, x.0)

-- If fewer bytes were read than requested, the end was met.
pub met_end : (n most : ℕ) (E : Type 0) → (n ≡ most) ⊎ ((n < most) × E) → n < most → E
met_end n most E (inl e) few = absurd (omega (arith, e, few))
met_end n most E (inr x) few = x.1

-- If no fewer bytes were read than requested, exactly as many were.
pub as_many : (n most : ℕ) (E : Type 0) → (n ≡ most) ⊎ ((n < most) × E) → most ≤ n → n ≡ most
as_many n most E (inl e) all = e
as_many n most E (inr x) all = absurd (omega (arith, x.0, all))

module _ {State : Type 0} (takes : State → List ℕ → State → Type 0) (is_ended : State → Type 0) (failures : State → ℕ)
    (in_turn : (a b c : State) (first second : List ℕ) → takes a first b → takes b second c → takes a (first ++ second) c) where
  -- An error before the first byte of a frame.
  pub stopped : (a b : State) (most : ℕ) (error : FrameError) → IsStopped (source takes is_ended failures a b) error → IsUnread (source takes is_ended failures a b) most error
  stopped a b most errors.TooLong is = absurd is
  stopped a b most errors.Cut is = absurd is
  stopped a b most errors.Device is = is
  stopped a b most errors.OutOfMemory is = is

  -- An error after the first bytes of a frame.
  pub stopped_behind : (a b c : State) (most : ℕ) (error : FrameError) (first : List ℕ) → takes a first b → failures b ≡ failures a → IsStopped (source takes is_ended failures b c) error → IsUnread (source takes is_ended failures a c) most error
  stopped_behind a b c most errors.TooLong first moved sound is = absurd is
  stopped_behind a b c most errors.Cut first moved sound is = absurd is
  stopped_behind a b c most errors.Device first moved sound is =
      let f : Fails (source takes is_ended failures b c) is.0 = is.1 in (
        first ++ is.0,
        record {
          before = f.before;
          moved = in_turn a b f.before first is.0 moved f.moved;
          sound = f.sound ∙ sound;
          stopped = f.stopped;
          not_ended = f.not_ended;
          once = f.once;
        },
      )
  stopped_behind a b c most errors.OutOfMemory first moved sound is = (first ++ is.0, in_turn a b c first is.0 moved is.1, is.2 ∙ sound)

  -- A length, followed by fewer bytes than it says and the end of the input.
  pub cut_behind : (a b c : State) (most count : ℕ) (part : List ℕ) → count ≤ most → takes a (number_octets count) b → failures b ≡ failures a → IsTaken (source takes is_ended failures b c) count part → length part < count → IsUnread (source takes is_ended failures a c) most errors.Cut
  cut_behind a b c most count part small moved sound taken few = (
    number_octets count ++ part,
    (begun count part, inr (count, part, small, refl, few)),
    in_turn a b c (number_octets count) part moved taken.0,
    met_end (length part) count (is_ended c) taken.2 few,
    taken.1 ∙ sound,
  )

  -- A length, followed by as many bytes.
  pub next_behind : (a b c : State) (most count : ℕ) (content : List ℕ) → count ≤ most → takes a (number_octets count) b → failures b ≡ failures a → IsTaken (source takes is_ended failures b c) count content → count ≤ length content → IsNext (source takes is_ended failures a c) most (Some content)
  next_behind a b c most count content small moved sound taken all =
      let e : length content ≡ count = as_many (length content) count (is_ended c) taken.2 all in (
        subst (λ (n : ℕ). takes a (number_octets n ++ content) c) (sym e) (in_turn a b c (number_octets count) content moved taken.0),
        omega (arith, e, small),
        taken.1 ∙ sound,
      )
