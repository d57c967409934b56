-- The abstract values of `OneOf2` and `OneOf4`.
use Rattle.std.specs.Prelude.{◌⊎◌}
use Rattle.std.proofs.Common.{inl, inr}
use Rattle.der_core_values.specs.declared.one_of_two.OneOf2.{OneOf2}
use Rattle.der_core_values.specs.declared.one_of_two.OneOf2.TheVariants as two
use Rattle.der_core_values.specs.declared.one_of_four.OneOf4.{OneOf4}
use Rattle.der_core_values.specs.declared.one_of_four.OneOf4.TheVariants as four

abbrev pub plain_of_two : {A B P Q : Type 0} → (A → P) → (B → Q) → OneOf2 A B → P ⊎ Q
plain_of_two a b (two.First v) = inl (a v)
plain_of_two a b (two.Second v) = inr (b v)

abbrev pub plain_of_four : {A B C D P Q R S : Type 0} → (A → P) → (B → Q) → (C → R) → (D → S)
    → OneOf4 A B C D → P ⊎ (Q ⊎ (R ⊎ S))
plain_of_four a b c d (four.First v) = inl (a v)
plain_of_four a b c d (four.Second v) = inr (inl (b v))
plain_of_four a b c d (four.Third v) = inr (inr (inl (c v)))
plain_of_four a b c d (four.Fourth v) = inr (inr (inr (d v)))
