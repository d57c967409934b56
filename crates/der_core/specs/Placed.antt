-- The position of a further member in a strict set (X.690 11.6).
use Rattle.std.specs.Prelude.{◌≡◌, ◌⊎◌, List, [], ◌∷◌, Bool, true, false, if◌then◌else◌}
use Rattle.std.specs.List.{AllByRecursion, list_any}
use Rattle.std.specs.declared.cmp.Ordering.{Ordering}
use Rattle.std.specs.declared.cmp.Ordering.TheVariants.{Less, Equal, Greater}
use Rattle.der_core_coding.specs.CoreHead.declared.error.Error.{Error}
use Rattle.der_core_coding.specs.CoreHead.declared.error.ErrorKind.TheVariants as kinds
use Rattle.der_core_coding.specs.CoreHead.Grammar.{plain_list}
use Rattle.der_core_coding.specs.CoreHead.Shapes.{Shape, Value, IsValid}
use Rattle.der_core.specs.Orders.{encodings_cmp}

-- True for this order.
abbrev pub is_less : Ordering → Bool
is_less Less = true
is_less Equal = false
is_less Greater = false

abbrev pub is_equal : Ordering → Bool
is_equal Less = false
is_equal Equal = true
is_equal Greater = false

-- The encoding of a value is less than that of another one.
abbrev pub is_below : (s : Shape) → Value s → Value s → Bool
is_below s v w = is_less (encodings_cmp s v w)

-- Two values have the same encoding.
abbrev pub is_same : (s : Shape) → Value s → Value s → Bool
is_same s v w = is_equal (encodings_cmp s v w)

-- Inserts an element before the first one before which it goes.
abbrev pub put_in_front : {P : Type 0} → (P → P → Bool) → P → List P → List P
put_in_front goes_before x [] = x ∷ []
put_in_front goes_before x (y ∷ left) =
    if goes_before x y then x ∷ y ∷ left else y ∷ put_in_front goes_before x left

-- Inserts a value before the first one whose encoding is greater than its own (X.690 11.6).
abbrev pub placed : (s : Shape) → Value s → List (Value s) → List (Value s)
placed s v others = put_in_front (is_below s) v others

-- One of the values has the same encoding as `v`.
abbrev pub stands_among : (s : Shape) → Value s → List (Value s) → Bool
stands_among s v others = list_any (λ w. is_same s v w) others

-- All values of the list are valid.
abbrev pub AllValid : {A : Type 0} (s : Shape) → (A → Value s) → List A → Type 0
AllValid s f xs = AllByRecursion (λ x. IsValid s (f x)) xs

-- The possible errors of inserting a member: memory ran out; or a member has the same encoding; or
-- not all values are valid, such as one with 2^32 bytes or more.
abbrev pub IsNotPlaced : {A : Type 0} (s : Shape) → (A → Value s) → A → List A → Error → Type 0
IsNotPlaced s f x others e =
    (e.kind ≡ kinds.OutOfMemory)
    ⊎ (((e.kind ≡ kinds.SetDuplicate)
    × (AllValid s f others → IsValid s (f x) → stands_among s (f x) (plain_list f others) ≡ true))
    ⊎ ((e.kind ≡ kinds.Overflow) × (AllValid s f others → IsValid s (f x) → ⊥)))
