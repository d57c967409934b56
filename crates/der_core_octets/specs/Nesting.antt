-- Decoding nested values with a closure, for which the end of the reader is moved nearer.
use Rattle.std.specs.Prelude.{◌≡◌, ◌≢◌, ◌<◌, ◌≤◌, ◌⊎◌, ℕ, length, drop, [], true, false, Result, Ok}
use Rattle.std.specs.Prelude.{Err}
use Rattle.std.specs.Borrow.{MutBor}
use Rattle.std.specs.Fn.{Once, FnOnceReturnsAtMut}
use Rattle.der_core_head.specs.declared.error.Error.{Error}
use Rattle.der_core_head.specs.declared.error.ErrorKind.TheVariants as kinds
use Rattle.der_core_head.specs.declared.tag.Tag.{Tag}
use Rattle.der_core_head.specs.Bodies.{head_by}
use Rattle.der_core_head.specs.Reading.{State, Kept, Refuses, entered}

-- The reader `old` is at a header with this tag and a content of `n` bytes, and `mid` is the reader
-- after the header.
pub record Enters (t : Tag) (n : ℕ) (old mid : State) : Type 0 where
  pub ready : old.failed ≡ false
  pub head : head_by old.source.encoding old.rest ≡ Ok (record { tag = t; len = n }, mid.rest)
  pub moved : mid ≡ record old { rest = mid.rest }

-- The end can be moved to `n` bytes ahead: there are as many bytes, and another level may be
-- opened.
abbrev pub CanEnter : ℕ → State → Type 0
CanEnter n old = (n ≤ length old.rest) × (0 < old.room)

-- The next `n` bytes were consumed, and the end and the levels are as before.
pub record IsNested (n : ℕ) (old new : State) : Type 0 where
  pub ready : old.failed ≡ false
  pub enters : CanEnter n old
  pub rest : new.rest ≡ drop n old.rest
  pub kept : Kept old new

-- The end was moved to `n` bytes ahead, and `f` was called with a reader that has this end. It
-- returned `r`, and changed the reader to `outer`.
abbrev pub CalledWithin : {R T F : Type 0} → (R → State)
    → Once F (MutBor R × Unit {0}) (Result T Error × (MutBor R × Unit {0})) → F → ℕ → State
    → Result T Error → R → Type 0
CalledWithin {R} state g f n old r outer =
    CanEnter n old × (inner : R) × (state inner ≡ entered n old)
    × FnOnceReturnsAtMut g f inner r outer

-- The closure `f` returned `x` and read all bytes.
abbrev pub Answered : {R T F : Type 0} → (R → State)
    → Once F (MutBor R × Unit {0}) (Result T Error × (MutBor R × Unit {0})) → F → ℕ → State → T
    → Type 0
Answered {R} state g f n old x = (outer : R) × CalledWithin state g f n old (Ok x) outer
    × ((state outer).rest ≡ [])

-- The closure `f` succeeded and left bytes unread.
abbrev pub LeavesOctets : {R T F : Type 0} → (R → State)
    → Once F (MutBor R × Unit {0}) (Result T Error × (MutBor R × Unit {0})) → F → ℕ → State → Type 0
LeavesOctets {R} {T} state g f n old = (outer : R) × (x : T)
    × CalledWithin state g f n old (Ok x) outer × ((state outer).rest ≢ [])

-- The possible errors: the reader had failed, the end can't be moved, `f` returned the error, or
-- `f` left bytes unread.
abbrev pub RefusesNested : {R T F : Type 0} → (R → State)
    → Once F (MutBor R × Unit {0}) (Result T Error × (MutBor R × Unit {0})) → F → ℕ → State → Error
    → Type 0
RefusesNested {R} state g f n old e =
    ((old.failed ≡ true) × (e.kind ≡ kinds.Failed))
    ⊎ (((old.failed ≡ false) × Refuses n old e.kind)
    ⊎ (((outer : R) × CalledWithin state g f n old (Err e) outer)
    ⊎ (LeavesOctets state g f n old × (e.kind ≡ kinds.TrailingData))))

-- The reader was at a header with this tag, which was consumed together with its content.
abbrev pub IsEnclosed : Tag → State → State → Type 0
IsEnclosed t old new = (n : ℕ) × (mid : State) × Enters t n old mid × IsNested n mid new

-- The closure `f` was called at that content, returned `x`, and read all of it.
abbrev pub AnsweredIn : {R T F : Type 0} → Tag → (R → State)
    → Once F (MutBor R × Unit {0}) (Result T Error × (MutBor R × Unit {0})) → F → State → T → Type 0
AnsweredIn t state g f old x = (n : ℕ) × (mid : State) × Enters t n old mid
    × Answered state g f n mid x

-- The reader is at a header with another tag.
abbrev pub IsOther : Tag → State → Type 0
IsOther t old = (s : Tag) × (n : ℕ) × (mid : State) × Enters s n old mid × (s ≢ t)

-- The possible errors: the reader had failed, there is no header, the header has another tag, or
-- decoding the content with `f` failed.
abbrev pub RefusesIn : {R T F : Type 0} → Tag → (R → State)
    → Once F (MutBor R × Unit {0}) (Result T Error × (MutBor R × Unit {0})) → F → State → Error
    → Type 0
RefusesIn {R} {T} t state g f old e =
    ((old.failed ≡ true) × (e.kind ≡ kinds.Failed))
    ⊎ (((old.failed ≡ false) × (head_by old.source.encoding old.rest ≡ Err e.kind))
    ⊎ ((IsOther t old × (e.kind ≡ kinds.TagUnexpected))
    ⊎ ((n : ℕ) × (mid : State) × Enters t n old mid × RefusesNested {R = R} {T = T} state g f n mid
    e)))
