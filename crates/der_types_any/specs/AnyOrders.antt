-- The order of values of any type: by the first bytes of their tags, then by the tag numbers, and
-- then by the contents.
use Rattle.std.specs.Prelude.{◌≡◌, ℕ, List, [], ◌∷◌, ◌++◌, nat_eq, true}
use Rattle.std.proofs.Common.{ap}
use Rattle.std.specs.Cmp.{IsTotalOrder, on_total}
use Rattle.std.specs.Cmp.Lexicographic.{pointwise, slice_cmp, bytes_decides, nat_list_cmp_total}
use Rattle.std.specs.Cmp.Lexicographic.{texts_ties}
use Rattle.std.specs.Hash as fed
use Rattle.std.specs.Ordering.{nat_cmp, eq_by_cmp}
use Rattle.std.specs.declared.cmp.Ordering.{Ordering}
use Rattle.der_types_text.specs.Der.Tags.{leading_octet, number_of}
use Rattle.der_types_text.specs.Der.Shapes.{AnyValue}

-- The list by which values are compared: the first byte of the tag, its number, and the content.
abbrev pub any_key : AnyValue → List ℕ
any_key a = leading_octet a.tag ∷ number_of a.tag ∷ a.contents

-- The order of values of any type.
abbrev pub any_cmp : AnyValue → AnyValue → Ordering
any_cmp a b = slice_cmp nat_cmp (any_key a) (any_key b)

-- The order of values of any type is total.
pub any_cmp_total : IsTotalOrder any_cmp
any_cmp_total = on_total any_key nat_list_cmp_total

-- Values are equal exactly if the order is `Equal`.
pub any_cmp_ties : (a b : AnyValue) → pointwise nat_eq (any_key a) (any_key b)
    ≡ eq_by_cmp any_cmp a b
any_cmp_ties a b = texts_ties (any_key a) (any_key b)

-- The input of a hasher.
abbrev pub key_fed : List ℕ → fed.HashWrites
key_fed [] = []
key_fed (leading ∷ []) = []
key_fed (leading ∷ number ∷ w) = fed.u8 leading ++ (fed.u32 number ++ fed.slice fed.u8 w)

abbrev pub any_fed : AnyValue → fed.HashWrites
any_fed a = key_fed (any_key a)

-- Equal values feed the same input to a hasher.
pub any_fed_alike : (a b : AnyValue) → pointwise nat_eq (any_key a) (any_key b) ≡ true
    → any_fed a ≡ any_fed b
any_fed_alike a b e = ap key_fed ((bytes_decides (any_key a) (any_key b)).0 e)
