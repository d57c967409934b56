-- Lemmas that impls cite: a type's own order is that of contents of equal length.
use Rattle.std.specs.Prelude.{◌≡◌, ℕ, List, length, Bool}
use Rattle.std.proofs.Common.{refl, sym, ap, ◌∙◌, arith}
use Rattle.std.proofs.lemmas.Bool.Decides.{nat_tests}
use Rattle.std.specs.Ordering.{nat_cmp, bool_cmp, ordering_then}
use Rattle.std.specs.Cmp.{nat_cmp_total, tied_itself}
use Rattle.std.specs.declared.cmp.Ordering.TheVariants.{Equal}
use Rattle.der_core_coding.specs.Oid.IdentifierOctets.{identifier_octets}
use Rattle.der_core_coding.specs.Oid.Orders.{owned_cmp}
use Rattle.der_core_coding.specs.CoreHead.Leaves.{Leaf, LeafValue, leaf_contents as octets_of_leaf}
use Rattle.der_core_coding.specs.CoreHead.Leaves.{boolean}
use Rattle.der_core_coding.specs.CoreHead.Leaves.{null, identifier}
use Rattle.der_core_coding.specs.CoreHead.Shapes.{leaf, contents, IsContent}
use Rattle.der_core.specs.Orders.{octets_cmp, contents_cmp}

-- The order of a type whose values are compared as the bytes of their contents.
pub octets_order : (l : Leaf) (v w : LeafValue l) → IsContent (leaf l) v → IsContent (leaf l) w
    → length (contents (leaf l) v) ≡ length (contents (leaf l) w)
    → octets_cmp (octets_of_leaf l v) (octets_of_leaf l w) ≡ contents_cmp (leaf l) v w
unfolding contents
octets_order l v w p q e = refl

-- The order of BOOLEAN values.
pub bool_order : (v w : Bool) → IsContent (leaf boolean) v → IsContent (leaf boolean) w
    → length (contents (leaf boolean) v) ≡ length (contents (leaf boolean) w) → bool_cmp v w
    ≡ contents_cmp (leaf boolean) v w
unfolding contents
bool_order v w p q e = grind (arith, nat_tests)

-- The order of NULL values.
pub null_order : (v w : Unit {0}) → IsContent (leaf null) v → IsContent (leaf null) w
    → length (contents (leaf null) v) ≡ length (contents (leaf null) w)
    → Equal ≡ contents_cmp (leaf null) v w
unfolding contents
null_order v w p q e = refl

-- The order of object identifiers, by the length of the encoding and then by its bytes.
pub identifier_order : (bound capacity : ℕ) (v w : List ℕ)
    → IsContent (leaf (identifier bound capacity)) v
    → IsContent (leaf (identifier bound capacity)) w
    → length (contents (leaf (identifier bound capacity)) v)
    ≡ length (contents (leaf (identifier bound capacity)) w) → owned_cmp v w
    ≡ contents_cmp (leaf (identifier bound capacity)) v w
unfolding contents
identifier_order bound capacity v w p q e =
    ap (λ o. ordering_then o (octets_cmp (identifier_octets v) (identifier_octets w)))
    (ap (nat_cmp (length (identifier_octets v))) (sym e)
    ∙ tied_itself nat_cmp_total (length (identifier_octets v)))
