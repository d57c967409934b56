-- Members that are brought into another order, by the indexes that they had before.
use Rattle.std.specs.Prelude.{ℕ, List, [], ◌∷◌, length, map, slice_index_or}
use Rattle.std.specs.List.{AllAdjacentBelow, range_with_len}
use Rattle.std.specs.List.Sorted.{IsStableBy}
use Rattle.std.specs.Ordering.{is_lt}
use Rattle.der_core.specs.Shapes.{Shape, Value, octets_of}
use Rattle.der_core.specs.Orders.{octets_cmp}
use Rattle.der_types_sets.specs.Sets.{NotAbove}

-- The member at an index, or `d` if there are fewer members.
abbrev pub member_at : {A : Type 0} → List A → A → ℕ → A
member_at xs d place = slice_index_or xs place d

-- The members at these indexes, in the order of the indexes.
abbrev pub members_at : {A : Type 0} → List A → A → List ℕ → List A
members_at xs d places = map (member_at xs d) places

-- No member at one of the indexes is greater than the member at the next one.
abbrev pub AscendsAt : {A : Type 0} (s : Shape) → (A → Value s) → List A → List ℕ → ℕ → Type 0
AscendsAt {A} s f xs places end =
    AllAdjacentBelow (λ p q. (d : A) → NotAbove s f (member_at xs d p) (member_at xs d q)) places
    end

-- The encoding of the member at an index, or of the first member if there are fewer.
abbrev pub member_encoding : {A : Type 0} (s : Shape) → (A → Value s) → List A → ℕ → List ℕ
member_encoding s f [] place = []
member_encoding s f (x ∷ xs) place = octets_of s (f (member_at (x ∷ xs) x place))

-- The indexes are sorted stably by the encodings of the members.
abbrev pub KeepsPlaces : {A : Type 0} (s : Shape) → (A → Value s) → List A → List ℕ → Type 0
KeepsPlaces s f xs places =
    IsStableBy (λ p q. is_lt (octets_cmp (member_encoding s f xs p) (member_encoding s f xs q)))
    (range_with_len 0 (length xs)) places
