-- SET OF as lists of members in order (X.690 8.12, 11.6). A member `x` has the abstract value `f x`
-- of the shape `s`.
use Rattle.std.specs.Prelude.{◌≡◌, ◌≢◌, ℕ, suc, ◌-◌, ◌<◌, ◌≤◌, List, [], ◌∷◌, ◌++◌, length, take}
use Rattle.std.specs.Prelude.{slice_index_or, flat_map, bytes_eq, ⊤, ◌⊎◌, Option, Some, Result, Ok}
use Rattle.std.specs.Prelude.{Err, true, false, insert, filter, IsPermutation}
use Rattle.std.specs.Iterator.{YieldsThen}
use Rattle.std.specs.declared.cmp.Ordering.TheVariants.{Less, Greater}
use Rattle.der_core.specs.ErrorTypes.Error.{Error}
use Rattle.der_core.specs.ErrorTypes.ErrorKind.TheVariants as kinds
use Rattle.der_core.specs.TagTypes.Tag.TheVariants as tags
use Rattle.der_core.specs.Octets.{Readings}
use Rattle.der_core.specs.Grammar.{plain_list}
use Rattle.der_core.specs.Reading.{State, IsBer, IsRest, Kept, Fails}
use Rattle.der_core.specs.Shapes.{Shape, Value, tagged, nested, many, Spells, IsValid}
use Rattle.der_core.specs.Shapes.{octets_of}
use Rattle.der_core.specs.Orders.{octets_cmp}
use Rattle.der_core.specs.Placed.{AllValid}

-- The encoding of `x` isn't greater than that of `y`, if both are valid.
abbrev pub NotAbove : {A : Type 0} (s : Shape) → (A → Value s) → A → A → Type 0
NotAbove s f x y = IsValid s (f x) → IsValid s (f y)
    → octets_cmp (octets_of s (f x)) (octets_of s (f y)) ≢ Greater

-- The encoding of `x` is less than that of `y`, if both are valid.
abbrev pub IsBelow : {A : Type 0} (s : Shape) → (A → Value s) → A → A → Type 0
IsBelow s f x y = IsValid s (f x) → IsValid s (f y)
    → octets_cmp (octets_of s (f x)) (octets_of s (f y)) ≡ Less

-- No member is greater than the next one. Equal members are allowed.
abbrev pub Ascends : {A : Type 0} (s : Shape) → (A → Value s) → List A → Type 0
Ascends s f [] = ⊤
Ascends s f (x ∷ []) = ⊤
Ascends s f (x ∷ y ∷ xs) = NotAbove s f x y × Ascends s f (y ∷ xs)

-- The content of a SET OF whose members may be encoded in any order: the bytes are the encodings of
-- these members in some order, and the list of the members is in ascending order.
pub record Loose (s : Shape) (members : List (Value s)) (octets : List ℕ) : Type 0 where
  pub spelled : List (Value s)
  pub valid : AllValid s (λ v. v) spelled
  pub octets_are : octets ≡ flat_map (octets_of s) spelled
  pub same : IsPermutation spelled members
  pub ascend : Ascends s (λ v. v) members

-- The encoding of a SET OF whose members may be encoded in any order. The list of the members is in
-- ascending order.
pub record SpellsLoosely (s : Shape) (members : List (Value s)) (octets : List ℕ) : Type 0 where
  pub spelled : List (Value s)
  pub spells : Spells (tagged tags.Set (nested (many s))) spelled octets
  pub same : IsPermutation spelled members
  pub ascend : Ascends s (λ v. v) members

-- The member before index `i`, if there is one, isn't greater than `x`.
abbrev pub Behind : {A : Type 0} (s : Shape) → (A → Value s) → List A → A → ℕ → Type 0
Behind {A} s f xs x i = (y : A) (k : ℕ) → i ≡ suc k → y ≡ slice_index_or xs k y → NotAbove s f y x

-- The member at index `i`, if there is one, is greater than `x`.
abbrev pub Before : {A : Type 0} (s : Shape) → (A → Value s) → List A → A → ℕ → Type 0
Before {A} s f xs x i = (y : A) → i < length xs → y ≡ slice_index_or xs i y → IsBelow s f x y

-- The item `x` belongs at index `i`: after the members that aren't greater, and before those that
-- are greater. So it comes after its equals.
pub record IsPlace {A : Type 0} (s : Shape) (f : A → Value s) (xs : List A) (x : A) (i : ℕ) : Type 0
  where
    pub within : i ≤ length xs
    pub behind : Behind s f xs x i
    pub before : Before s f xs x i

-- The item was inserted where it belongs.
abbrev pub IsPutAtPlace : {A : Type 0} (s : Shape) → (A → Value s) → List A → A → List A → Type 0
IsPutAtPlace s f old x new = (i : ℕ) × IsPlace s f old x i × (new ≡ insert old i x)

-- The error is `Overflow`, and some member has no encoding, for example because its length exceeds
-- 2^32 - 1.
pub record TooLong {A : Type 0} (s : Shape) (f : A → Value s) (xs : List A) (e : Error) : Type 0
  where
    pub kind : e.kind ≡ kinds.Overflow
    pub some : AllValid s f xs → ⊥

-- On success, the call returned the values that the decoder gives, in ascending order, and moved
-- the reader past them. Its errors are those of the decoder and, under BER, `Overflow` for a member
-- that has no encoding and so can't be compared.
abbrev pub ReadsArranged : {A : Type 0} (s : Shape) → (A → Value s) → (A → Value s) → State → State
    → Result (List A) Error → Readings (List (Value s)) → List A → Type 0
ReadsArranged s plain written old new (Ok set) f read =
    (f old.rest ≡ Ok (plain_list plain read, new.rest)) × (new ≡ record old { rest = new.rest })
    × (old.failed ≡ false) × IsRest new.rest old.rest × IsPermutation read set
ReadsArranged s plain written old new (Err e) f read =
    (old.failed ≡ false → Fails e.kind (f old.rest) ⊎ (IsBer old × TooLong s written read e))
    × Kept old new × (old.failed ≡ true → e.kind ≡ kinds.Failed) × (new.failed ≡ true)

-- The error of an insertion: memory ran out, or some member has no encoding.
abbrev pub IsRefusal : {A : Type 0} (s : Shape) → (A → Value s) → List A → Error → Type 0
IsRefusal s f xs e = (e.kind ≡ kinds.OutOfMemory) ⊎ TooLong s f xs e

-- There is a last member, and `x` is less than it, if both are valid.
abbrev pub IsBelowLast : {A : Type 0} (s : Shape) → (A → Value s) → List A → A → Type 0
IsBelowLast {A} s f xs x = (length xs ≢ 0)
    × ((y : A) → y ≡ slice_index_or xs (length xs - 1) y → IsValid s (f y) → IsValid s (f x)
    → octets_cmp (octets_of s (f y)) (octets_of s (f x)) ≡ Greater)

-- The error is `SetOrdering`. If all members are valid, they aren't in ascending order.
pub record IsOutOfOrder {A : Type 0} (s : Shape) (f : A → Value s) (xs : List A) (e : Error) : Type
    0 where
  pub kind : e.kind ≡ kinds.SetOrdering
  pub falls : AllValid s f xs → Ascends s f xs → ⊥

-- Members with the same encoding have the same order in both lists.
abbrev pub KeepsEquals : {A : Type 0} (s : Shape) → (A → Value s) → List A → List A → Type 0
KeepsEquals s f xs ys = (b : List ℕ) → filter (λ x. bytes_eq (octets_of s (f x)) b) ys
    ≡ filter (λ x. bytes_eq (octets_of s (f x)) b) xs

-- The second list has the members of the first one in another order, in which equal members keep
-- their order if all are valid.
pub record IsArranged {A : Type 0} (s : Shape) (f : A → Value s) (xs ys : List A) : Type 0 where
  pub same : IsPermutation xs ys
  pub equals : AllValid s f xs → KeepsEquals s f xs ys

-- The items were inserted after the members that equal them, in the order in which they came.
abbrev pub Gains : {A : Type 0} (s : Shape) → (A → Value s) → List A → List A → List A → Type 0
Gains s f old items new = IsArranged s f (old ++ items) new

-- The items before the rejected one were inserted, in their order. It was rejected because memory
-- ran out, or because some member has no encoding.
abbrev pub StopsAt : {U T A : Type 0} (s : Shape) → (A → Value s) → (U → T → Type 0)
    → (T → Option A → T → Type 0) → U → List A → List A → Error → Type 0
StopsAt {U} {T} {A} s f becomes steps items old new e =
    (it : T) × (xs : List A) × (x : A) × (rest : T) × becomes items it
    × YieldsThen steps it xs (Some x) rest × Gains s f old xs new × IsRefusal s f (x ∷ new) e

-- One item of the list was rejected, and exactly those before it were inserted.
pub record StopsIn {A : Type 0} (s : Shape) (f : A → Value s) (old items new : List A)
    (e : Error) : Type 0 where
  pub front : List A
  pub refused : A
  pub back : List A
  pub are : items ≡ front ++ refused ∷ back
  pub gains : Gains s f old front new
  pub why : IsRefusal s f (refused ∷ new) e

-- The first `count` members of `old` were sorted, which gave `new`, and the next member was
-- rejected. `count` is at least `first`.
pub record StopsBehind {A : Type 0} (s : Shape) (f : A → Value s) (first : ℕ) (old new : List A)
    (count : ℕ) (e : Error) : Type 0 where
  pub least : first ≤ count
  pub within : count < length old
  pub arranged : IsArranged s f (take count old) new
  pub why : (x : A) → x ≡ slice_index_or old count x → TooLong s f (x ∷ new) e
