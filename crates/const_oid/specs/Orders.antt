-- The order of owned object identifiers: by the length of the encoding, then by its bytes.
use Rattle.std.specs.Prelude.{◌≡◌, ℕ, List, length, nat_eq, Bool, true, false}
use Rattle.std.specs.declared.cmp.Ordering.{Ordering}
use Rattle.std.specs.declared.cmp.Ordering.TheVariants.{Less, Equal, Greater}
use Rattle.std.specs.Ordering.{nat_cmp, on, then_cmp, ordering_then, is_eq, eq_by_cmp}
use Rattle.std.specs.Cmp.{nat_cmp_total, tied_itself, IsTotalOrder, on_total, then_total}
use Rattle.std.specs.Cmp.Lexicographic.{pointwise, slice_cmp, same_text, texts_ties}
use Rattle.std.specs.Cmp.Lexicographic.{nat_list_cmp_total}
use Rattle.std.proofs.Common.{refl, sym, ap, ◌∙◌}
use Rattle.const_oid.specs.IdentifierOctets.{identifier_octets}

-- The order of lists of bytes by their lengths, and then by the bytes.
abbrev pub sized_cmp : List ℕ → List ℕ → Ordering
sized_cmp = then_cmp (on length nat_cmp) (slice_cmp nat_cmp)

-- The order by length is total.
pub sized_cmp_total : IsTotalOrder sized_cmp
sized_cmp_total = then_total (on_total length nat_cmp_total) nat_list_cmp_total

-- The order of owned identifiers.
abbrev pub owned_cmp : List ℕ → List ℕ → Ordering
owned_cmp = then_cmp (on (λ arcs. length (identifier_octets arcs)) nat_cmp)
    (on identifier_octets (slice_cmp nat_cmp))

-- The order of owned identifiers is total.
pub owned_cmp_total : IsTotalOrder owned_cmp
owned_cmp_total = then_total (on_total (λ arcs. length (identifier_octets arcs)) nat_cmp_total)
    (on_total identifier_octets nat_list_cmp_total)

sized_ties : (xs ys : List ℕ) → pointwise nat_eq xs ys
    ≡ is_eq (ordering_then (nat_cmp (length xs) (length ys)) (slice_cmp nat_cmp xs ys))
sized_ties xs ys = by (nat_cmp (length xs) (length ys)) refl (pointwise nat_eq xs ys) refl
  where
    alike : true ≡ pointwise nat_eq xs ys → nat_cmp (length xs) (length ys) ≡ Equal
    alike t = ap (λ zs. nat_cmp (length xs) (length zs)) (sym (same_text xs ys t))
        ∙ tied_itself nat_cmp_total (length xs)

    by : (o : Ordering) → nat_cmp (length xs) (length ys) ≡ o → (b : Bool) → pointwise nat_eq xs ys
        ≡ b → b ≡ is_eq (ordering_then o (slice_cmp nat_cmp xs ys))
    by Less e true t = let h = alike (sym t) in cc
    by Less e false t = refl
    by Equal e b t = sym t ∙ texts_ties xs ys
    by Greater e true t = let h = alike (sym t) in cc
    by Greater e false t = refl

-- Identifiers are equal exactly if the order is `Equal`.
pub owned_cmp_ties : (a b : List ℕ) → pointwise nat_eq (identifier_octets a) (identifier_octets b)
    ≡ eq_by_cmp owned_cmp a b
owned_cmp_ties a b = sized_ties (identifier_octets a) (identifier_octets b)

-- Lists are equal exactly if the order is `Equal`.
pub sized_cmp_ties : (a b : List ℕ) → pointwise nat_eq a b ≡ eq_by_cmp sized_cmp a b
sized_cmp_ties a b = sized_ties a b
