-- The state of a writer after a call, and the bytes that are written to a slice or appended to
-- other bytes.
use Rattle.std.specs.Prelude.{◌≡◌, ◌+◌, ℕ, List, [], ◌++◌, Bool, true, false, length, take}
use Rattle.std.specs.Prelude.{Some, None}
use Rattle.std.specs.Prelude.{Result, Ok, Err, if◌then◌else◌}
use Rattle.std.specs.Borrow.{MutBor}
use Rattle.std.specs.Fn.{Once, FnOnceReturnsAtMut}
use Rattle.der_core_head.specs.declared.error.Error.{Error}
use Rattle.der_core_head.specs.declared.error.ErrorKind.{ErrorKind}
use Rattle.der_core_head.specs.declared.error.ErrorKind.TheVariants as kinds
use Rattle.der_core_head.specs.declared.tag.Tag.TheVariants as tags
use Rattle.der_core_head.specs.Octets.{◌>>=◌}
use Rattle.der_core_head.specs.Shapes.{Shape, Value}
use Rattle.der_core_head.specs.Writing.{Out, put_head, size, write}

-- Nothing was written. A writer that had failed is still failed, and one that doesn't allocate has
-- failed now.
pub record IsRefused (memory : Bool) (old new : Out) : Type 0 where
  pub written : new.written ≡ old.written
  pub room : new.room ≡ old.room
  pub stays : old.failed ≡ true → new.failed ≡ true
  pub failed : memory ≡ false → new.failed ≡ true

-- The written bytes begin with these bytes.
abbrev pub IsFront : List ℕ → Out → Type 0
IsFront w o = take (length w) o.written ≡ w

-- No written byte has changed, and a writer that had failed is still failed.
abbrev pub Continues : Out → Out → Type 0
Continues old new = ((w : List ℕ) → IsFront w old → IsFront w new)
    × (old.failed ≡ true → new.failed ≡ true)

-- A prefix of these bytes was appended.
pub record AddsFront (octets : List ℕ) (old new : Out) : Type 0 where
  pub count : ℕ
  pub written : new.written ≡ old.written ++ take count octets

-- A writer with this much room, to which nothing was written.
abbrev pub blank : ℕ → Out
blank room = record { written = []; room = Some room; failed = false }

-- The written bytes, if no write failed.
abbrev pub finished : Out → Result (List ℕ) ErrorKind
finished o = if o.failed then Err kinds.Failed else Ok o.written

-- The length of a value's encoding, and the bytes with the encoding appended.
abbrev pub appended : (s : Shape) → Value s → List ℕ → Result (ℕ × List ℕ) ErrorKind
appended s v w = size s v >>= λ n. write s v (record { written = w; room = None; failed = false })
    >>= λ o. Ok (n, o.written)

-- The bytes that are written to a writer with this much room.
abbrev pub filled : (Out → Result Out ErrorKind) → ℕ → Result (List ℕ) ErrorKind
filled f room = f (blank room) >>= finished

-- The closure `f` was called after the header of a SEQUENCE with `n` content bytes, and wrote `n`
-- bytes.
abbrev pub Encloses : {W F : Type 0} → (W → Out)
    → Once F (MutBor W × Unit {0}) (Result (Unit {0}) Error × (MutBor W × Unit {0})) → F → ℕ → Out
    → Out → Type 0
Encloses {W} out g f n old new = (inner outer : W) × (put_head tags.Sequence n old ≡ Ok (out inner))
    × FnOnceReturnsAtMut g f inner (Ok tt) outer
    × (out outer ≡ new) × (length new.written ≡ length (out inner).written + n)
