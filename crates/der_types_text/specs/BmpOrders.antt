-- The order of BMPStrings, which is that of their contents, whatever their lengths are.
use Rattle.std.specs.Prelude.{◌≡◌, ℕ, ◌/◌, ◌%◌, List, [], ◌∷◌, length}
use Rattle.std.proofs.Common.{refl, sym, ◌∙◌, arith}
use Rattle.std.specs.Cmp.Lexicographic.{slice_cmp}
use Rattle.std.specs.Ordering.{nat_cmp, ordering_then}
use Rattle.der_core.specs.BmpStrings.{bmp_octets}
use Rattle.der_core.specs.Leaves.{bmp}
use Rattle.der_core.specs.Shapes.{leaf, contents, IsContent}
use Rattle.der_core.specs.Orders.{contents_cmp}
use Rattle.der_core.specs.OrdLaws.{octets_order}
use Rattle.der_core.proofs.OrderLaws.{split_cmp}
use Rattle.der_core.proofs.OrderLaws.{then_assoc}

-- Characters are ordered as their bytes are, because the more significant byte comes first.
pub bmp_octets_cmp : (us vs : List ℕ) → slice_cmp nat_cmp (bmp_octets us) (bmp_octets vs)
    ≡ slice_cmp nat_cmp us vs
unfolding bmp_octets
bmp_octets_cmp [] [] = refl
bmp_octets_cmp [] (v ∷ vs) = refl
bmp_octets_cmp (u ∷ us) [] = refl
bmp_octets_cmp (u ∷ us) (v ∷ vs) =
    sym
    (then_assoc (nat_cmp (u / 256) (v / 256)) (nat_cmp (u % 256) (v % 256))
    (slice_cmp nat_cmp (bmp_octets us) (bmp_octets vs)))
    ∙ (λ i. ordering_then (split_cmp 256 u v (omega arith) i) (bmp_octets_cmp us vs i))

pub bmp_order : (v w : List ℕ) → IsContent (leaf bmp) v → IsContent (leaf bmp) w
    → length (contents (leaf bmp) v) ≡ length (contents (leaf bmp) w) → slice_cmp nat_cmp v w
    ≡ contents_cmp (leaf bmp) v w
bmp_order v w p q e = sym (bmp_octets_cmp v w) ∙ octets_order bmp v w p q e
