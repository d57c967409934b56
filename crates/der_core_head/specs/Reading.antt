-- The state of a reader, and the effects of calls on it.
use Rattle.std.specs.Prelude.{◌-◌, ◌+◌, ◌<◌, ◌≤◌, length, take, drop, ◌||◌, ◌≡◌, ◌≢◌, ℕ, List, []}
use Rattle.std.specs.Prelude.{◌++◌, Bool, true, false, Result, Ok, Err}
use Rattle.der_core_head.specs.declared.error.Error.{Error}
use Rattle.der_core_head.specs.declared.length.Length.{Length}
use Rattle.der_core_head.specs.declared.error.ErrorKind.{ErrorKind}
use Rattle.der_core_head.specs.declared.error.ErrorKind.TheVariants as kinds
use Rattle.der_core_head.specs.declared.encoding_rules.EncodingRules.{EncodingRules}
use Rattle.der_core_head.specs.declared.encoding_rules.EncodingRules.TheVariants as encodings
use Rattle.std.specs.Borrow.{MutBor, Bor}
use Rattle.std.specs.Fn.{Once, FnOnceReturnsAtMut}
use Rattle.der_core_head.specs.Shapes.{Shape, Content, Body, Value, ContentValue, BodyValue, leaf}
use Rattle.der_core_head.specs.declared.tag.Tag.{Tag}
use Rattle.der_core_head.specs.Octets.{◌>>=◌, Readings}
use Rattle.der_core_head.specs.Limits.{levels_max}
use Rattle.der_core_head.specs.Grammar.{read_by, read_body_by, read_content_by, value_at, kept}
use Rattle.der_core_head.specs.Leaves.{Leaf, leaf_read}

-- The input: its encoding rules, and its number of bytes.
pub record Source : Type 0 where
  pub encoding : EncodingRules
  pub size : ℕ

-- The state of a reader: the bytes up to its current end, the bytes after that end, the number of
-- levels that may still be opened, whether a call has failed, and the input.
pub record State : Type 0 where
  pub rest : List ℕ
  pub behind : List ℕ
  pub room : ℕ
  pub failed : Bool
  pub source : Source

-- The state before any call.
abbrev pub unread : EncodingRules → List ℕ → State
unread rules w =
    record {
      rest = w;
      behind = [];
      room = levels_max;
      failed = false;
      source = record { encoding = rules; size = length w };
    }

-- The input is decoded under DER, or under BER.
abbrev pub IsDer : State → Type 0
IsDer s = s.source.encoding ≡ encodings.Der

abbrev pub IsBer : State → Type 0
IsBer s = s.source.encoding ≡ encodings.Ber

-- The error of a call that may allocate: the error that decoding gives, or `OutOfMemory`.
abbrev pub Fails : {Y : Type 0} → ErrorKind → Result Y ErrorKind → Type 0
Fails e r = e ≢ kinds.OutOfMemory → r ≡ Err e

-- The state after `n` more bytes were read.
abbrev pub past : ℕ → State → State
past n s = record s { rest = drop n s.rest }

-- The state after a failure that read nothing.
abbrev pub broken : State → State
broken s = record s { failed = true }

-- The state after a change of the encoding rules.
abbrev pub ruled : EncodingRules → State → State
ruled rules s = record s { source = record { encoding = rules; size = s.source.size } }

-- The bytes `r` are a suffix of the bytes `w`.
abbrev pub IsRest : List ℕ → List ℕ → Type 0
IsRest r w = (n : ℕ) × (r ≡ drop n w)

-- The reader may have moved on or failed. A reader that had failed is still failed.
pub record Kept (old new : State) : Type 0 where
  pub rest : IsRest new.rest old.rest
  pub behind : new.behind ≡ old.behind
  pub room : new.room ≡ old.room
  pub source : new.source ≡ old.source
  pub failed : old.failed ≡ true → new.failed ≡ true

-- Decodes at a reader, under its encoding rules and with the levels that it may open.
abbrev pub read_at : State → (s : Shape) → Readings (Value s)
read_at r s = read_by r.source.encoding s r.room

abbrev pub read_content_at : State → (c : Content) → Tag → Readings (ContentValue c)
read_content_at r c t = read_content_by r.source.encoding c t r.room

abbrev pub read_body_at : State → (b : Body) → Readings (BodyValue b)
read_body_at r b = read_body_by r.source.encoding b r.room

-- The call returned what the decoder `f` gives, under the view, and moved the reader on. After an
-- error the reader is failed. A failed reader returns `Failed`.
abbrev pub Reads : {X P : Type 0} → (X → P) → State → State → Result X Error → Readings P → Type 0
Reads view old new (Ok x) f = (f old.rest ≡ Ok (view x, new.rest))
    × (new ≡ record old { rest = new.rest }) × (old.failed ≡ false) × IsRest new.rest old.rest
Reads view old new (Err e) f = (old.failed ≡ false → Fails e.kind (f old.rest)) × Kept old new
    × (old.failed ≡ true → e.kind ≡ kinds.Failed) × (new.failed ≡ true)

-- As `Reads`, for a call that doesn't allocate. After an error the reader is at its old position
-- and failed.
abbrev pub ReadsNow : {X P : Type 0} → (X → P) → State → State → Result X Error → Readings P
    → Type 0
ReadsNow view old new (Ok x) f = (f old.rest ≡ Ok (view x, new.rest))
    × (new ≡ record old { rest = new.rest }) × (old.failed ≡ false) × IsRest new.rest old.rest
ReadsNow view old new (Err e) f = (old.failed ≡ false → f old.rest ≡ Err e.kind)
    × (new ≡ broken old) × (old.failed ≡ true → e.kind ≡ kinds.Failed)

-- The call returned what the decoder gives, under the view, and didn't change the reader.
abbrev pub Peeks : {X P : Type 0} → (X → P) → State → Result X Error → Result P ErrorKind → Type 0
Peeks view s (Ok x) r = (r ≡ Ok (view x)) × (s.failed ≡ false)
Peeks view s (Err e) r = (s.failed ≡ false → r ≡ Err e.kind)
    × (s.failed ≡ true → e.kind ≡ kinds.Failed)

-- Every call of the closure `f` returns what decoding the body gives.
abbrev pub ClosureReads : {R T F : Type 0} → (R → State)
    → Once F (MutBor R × Unit {0}) (Result T Error × (MutBor R × Unit {0})) → F → (b : Body)
    → (T → BodyValue b) → Type 0
ClosureReads {R} {T} state g f b view = (old : R) (r : Result T Error) (new : R)
    → FnOnceReturnsAtMut g f old r new
    → Reads view (state old) (state new) r (read_body_at (state old) b)

-- Every call of the closure `f` leaves the reader further on, or failed.
abbrev pub HandsBack : {R T F : Type 0} → (R → State)
    → Once F (MutBor R × Unit {0}) (Result T Error × (MutBor R × Unit {0})) → F → Type 0
HandsBack {R} {T} state g f = (old : R) (r : Result T Error) (new : R)
    → FnOnceReturnsAtMut g f old r new → Kept (state old) (state new)

-- The end of the reader is moved to `n` bytes after its position, one level deeper.
abbrev pub entered : ℕ → State → State
entered n s = record {
  rest = take n s.rest;
  behind = drop n s.rest ++ s.behind;
  room = s.room - 1;
  failed = s.failed;
  source = s.source;
}

-- The end of the reader is moved back, past `k` bytes that were after it, one level up.
abbrev pub restored : ℕ → Bool → State → State
restored k failed s =
    record {
      rest = s.rest ++ take k s.behind;
      behind = drop k s.behind;
      room = s.room + 1;
      failed = failed;
      source = s.source;
    }

-- The conditions under which opening `n` bytes fails with this error.
abbrev pub Refuses : ℕ → State → ErrorKind → Type 0
Refuses n old kinds.Incomplete = length old.rest < n
Refuses n old kinds.NestingDepth = (n ≤ length old.rest) × (old.room ≡ 0)
Refuses n old _ = ⊥

-- The result of opening `n` bytes: the number of bytes that are now after the end and weren't
-- before, or an error.
abbrev pub Opens : ℕ → State → State → Result Length Error → Type 0
Opens n old new (Ok taken) = (n + taken.value ≡ length old.rest) × (0 < old.room)
    × (old.room ≤ levels_max) × (old.failed ≡ false) × (new ≡ entered n old)
Opens n old new (Err e) = (old.failed ≡ false → Refuses n old e.kind) × (new ≡ broken old)
    × (old.failed ≡ true → e.kind ≡ kinds.Failed)

-- The result of closing a level, after the calls inside it failed or didn't fail.
abbrev pub Closes : ℕ → Bool → State → State → Result (Unit {0}) Error → Type 0
Closes k failed old new (Ok _) = (failed ≡ false → old.rest ≡ [])
    × (new ≡ restored k (old.failed || failed) old)
Closes k failed old new (Err e) = (failed ≡ false) × (old.rest ≢ []) × (e.kind ≡ kinds.TrailingData)
    × (new ≡ restored k true old)

-- The call returned what the decoder gives, under the view, or memory ran out.
abbrev pub Gives : {X P : Type 0} → (X → P) → Result X Error → Result P ErrorKind → Type 0
Gives view (Ok x) r = r ≡ Ok (view x)
Gives view (Err e) r = Fails e.kind r

-- As `Gives`, for a call that doesn't allocate.
abbrev pub GivesNow : {X P : Type 0} → (X → P) → Result X Error → Result P ErrorKind → Type 0
GivesNow view (Ok x) r = r ≡ Ok (view x)
GivesNow view (Err e) r = r ≡ Err e.kind

-- The content bytes were read, as for any leaf.
abbrev pub TakesContent : State → State → Result (Bor (List ℕ)) Error → ℕ → Type 0
TakesContent old new (Ok x) n =
    ((l : Leaf) (t : Tag) (room : ℕ)
    → value_at (read_content_by old.source.encoding (leaf l) t room) n old.rest
    ≡ (leaf_read l t x.now >>= kept new.rest)) × (new ≡ record old { rest = new.rest })
    × (old.failed ≡ false) × IsRest new.rest old.rest
TakesContent old new (Err e) n =
    ((l : Leaf) (t : Tag) (room : ℕ) → old.failed ≡ false
    → value_at (read_content_by old.source.encoding (leaf l) t room) n old.rest ≡ Err e.kind)
    × (new ≡ broken old) × (old.failed ≡ true → e.kind ≡ kinds.Failed)
