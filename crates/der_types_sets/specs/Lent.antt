-- The abstract value of a borrowed set: its members, borrowed either as values or as the bytes of
-- their encodings.
use Rattle.std.specs.Prelude.{◌≡◌, ◌≢◌, ℕ, ◌<◌, List, [], ◌++◌, length, slice_get, Option, None}
use Rattle.std.specs.Prelude.{Some, false, Result, Err, MatchOption, MatchResult, refl, ◌∷◌, ◌⊎◌}
use Rattle.std.proofs.Common.{ap}
use Rattle.std.specs.Coded.{Coded, code_by, coded×, coded_list, coded_ℕ}
use Rattle.der_core.specs.Limits.{levels_max}
use Rattle.der_core.specs.ErrorTypes.Error.{Error}
use Rattle.der_core.specs.ErrorTypes.ErrorKind.{ErrorKind}
use Rattle.der_core.specs.ErrorTypes.ErrorKind.TheVariants as kinds
use Rattle.der_core.specs.Heads.{Fits}
use Rattle.der_core.specs.Shapes.{Shape, Value, many}
use Rattle.der_core.specs.Grammar.{read, plain_list}
use Rattle.der_core.specs.Writing.{size_body, write}
use Rattle.der_core.specs.Same.{same_list}
use Rattle.der_types_sets.specs.Sets.{Ascends}
use Rattle.der_types_sets.specs.Ascending.{JoinsAscending, values_at}

-- Values, and bytes that encode `count` further values. One of the two is empty.
pub record Lent (A : Type 0) : Type 0 where
  pub values : List A
  pub octets : List ℕ
  pub count : ℕ

-- The encoding of this value in the logic.
abbrev pub lent_code : {A : Type 0} → Coded A → Coded (Lent A)
lent_code {A} c =
    code_by (List A × (List ℕ × ℕ)) (coded× (coded_list c) (coded× (coded_list coded_ℕ) coded_ℕ))
    (λ l. (l.values, (l.octets, l.count)))
    (λ p. record { values = p.0; octets = p.1.0; count = p.1.1 }) (λ _. refl)

-- The members that are decoded from the bytes.
abbrev pub members_spelled : {A : Type 0} (s : Shape) → Lent A → List (Value s)
members_spelled s l = values_at (read s levels_max) l.count l.octets

-- The abstract values of the members.
abbrev pub members_lent : {A : Type 0} (s : Shape) → (A → Value s) → Lent A → List (Value s)
members_lent s f l = plain_list f l.values ++ members_spelled s l

-- The members agree if the views of the values do.
pub same_lent : {A : Type 0} (s : Shape) {f g : A → Value s} → ((x : A) → f x ≡ g x) → (l : Lent A)
    → members_lent s f l ≡ members_lent s g l
same_lent s h l = ap (λ v. v ++ members_spelled s l) (same_list h l.values)

-- The bytes, at most 2^32 - 1, begin with `count` encodings.
pub record IsSpelled (s : Shape) (count : ℕ) (octets : List ℕ) : Type 0 where
  pub many : length (values_at (read s levels_max) count octets) ≡ count
  pub short : Fits octets

-- There are no values if there are bytes, and the bytes have `count` members.
pub record HasMembers {A : Type 0} (s : Shape) (l : Lent A) : Type 0 where
  pub one : 0 < l.count → length l.values ≡ 0
  pub spelled : IsSpelled s l.count l.octets

-- The members are in order, no bytes follow them, and no encoding is empty.
pub record IsLent {A : Type 0} (s : Shape) (f : A → Value s) (l : Lent A) : Type 0 where
  pub has : HasMembers s l
  pub some : 0 < l.count → 0 < length l.octets
  pub ascend : Ascends s f l.values
  pub joined : JoinsAscending s (members_spelled s l) l.octets

-- The error is `OutOfMemory`.
abbrev pub IsWantOfMemory : Error → Type 0
IsWantOfMemory e = e.kind ≡ kinds.OutOfMemory

-- The error of a strict set that isn't in ascending order.
abbrev pub IsMisplaced : ErrorKind → Type 0
IsMisplaced k = (k ≡ kinds.SetOrdering) ⊎ (k ≡ kinds.SetDuplicate)

-- Encoding one of the values fails because a strict set in it isn't in ascending order.
pub record HasFalling (s : Shape) (v : List (Value s)) (k : ErrorKind) : Type 0 where
  pub misplaced : IsMisplaced k
  pub index : ℕ
  pub value : Value s
  pub here : slice_get v index ≡ Some value
  pub refused : write s value (record { written = []; room = None; failed = false }) ≡ Err k

-- The values couldn't be encoded: memory ran out, or a strict set in one of them isn't in ascending
-- order, or a length exceeds `length_max`.
abbrev pub IsUnwritten : (s : Shape) → List (Value s) → Error → Type 0
IsUnwritten s v e = (IsWantOfMemory e ⊎ HasFalling s v e.kind)
    ⊎ ((e.kind ≡ kinds.Overflow) × (size_body (many s) v ≡ Err kinds.Overflow))

-- One of two sets borrows values and the other bytes, so that values are encoded for the
-- comparison.
abbrev pub AreLentApart : {A : Type 0} → Lent A → Lent A → Type 0
AreLentApart l m = ((length l.octets ≡ 0) × (0 < length m.octets))
    ⊎ ((0 < length l.octets) × (length m.octets ≡ 0))

-- Memory ran out, or a strict set in one of the values isn't in ascending order.
abbrev pub IsUncompared : (s : Shape) → List (Value s) → List (Value s) → Error → Type 0
IsUncompared s v w e = IsWantOfMemory e ⊎ (HasFalling s v e.kind ⊎ HasFalling s w e.kind)

-- The call returned the first member and left the others, or returned `None` because none was left.
-- If memory ran out, nothing is left.
abbrev pub YieldsMember : {A : Type 0} (s : Shape) → (A → Value s) → Lent A
    → Option (Result A Error) → Lent A → Type 0
YieldsMember s f l r t =
    MatchOption r ((members_lent s f l ≡ []) × (members_lent s f t ≡ []))
    (λ item. MatchResult item (λ x. members_lent s f l ≡ f x ∷ members_lent s f t)
    (λ e. (members_lent s f l ≢ []) × (members_lent s f t ≡ []) × IsWantOfMemory e))
