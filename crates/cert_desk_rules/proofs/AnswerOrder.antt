-- Laws about answers in their order: the answers that compare equal are between the two indexes of
-- a binary search.
use Rattle.std.proofs.Common.{◌≡◌, ℕ, zero, suc, ◌+◌, List, [], ◌∷◌, Bool, true, false, ltb, leb, length, map, get_or, take, drop, refl, ap, sym, ◌∙◌, arith}
use Rattle.std.specs.Prelude.{bytes_eq, ◌||◌}
use Rattle.std.specs.List.{AllWithin, list_any}
use Rattle.std.specs.List.Sorted.{IsPartitionedBy, IsSortedByKey}
use Rattle.std.specs.declared.cmp.Ordering.{Ordering}
use Rattle.std.specs.declared.cmp.Ordering.TheVariants.{Less, Equal, Greater}
use Rattle.std.specs.Ordering.{is_le, is_lt, ordering_index, ordering_then}
use Rattle.std.specs.Cmp.{IsTotalOrder}
use Rattle.std.specs.Cmp.Lexicographic.{bytes_decides, lists_total, nat_list_cmp_total}
use Rattle.std.proofs.lemmas.Bool.{and_parts}
use Rattle.std.proofs.lemmas.Cmp.{tied_itself}
use Rattle.std.proofs.lemmas.List.{get_or-drop, length-drop}
use Rattle.std.proofs.lemmas.List.Sorted.{IsPartitionedBy-leb, IsPartitionedBy-ltb, searchable_from_sorted}
use Rattle.cert_desk_bundle.specs.Der.BitStrings.{Bits, bit_contents}
use Rattle.cert_desk_bundle.specs.CertParts.Grammar.{Algorithm, PublicKey, key_algorithm, key_bits}
use Rattle.cert_desk_bundle.specs.CertParts.Views.{key_plain, algorithm_plain}
use Rattle.cert_desk_rules.specs.declared.answer.Answer.{Answer}
use Rattle.cert_desk_rules.specs.Answers.{answer_plain, answer_rank, is_about, rank, rank_cmp, same_algorithm, same_bits, same_key}

pub rank_cmp_total : IsTotalOrder rank_cmp
rank_cmp_total = lists_total nat_list_cmp_total

-- The order of three comparisons, one after another.
pub in_three : (a b c : Ordering) → ordering_then a (ordering_then b c) ≡ ordering_then a (ordering_then b (ordering_then c Equal))
in_three a b Less = refl
in_three a b Equal = refl
in_three a b Greater = refl

-- An answer that doesn't compare equal isn't about the signature.

module _ (key : PublicKey) (algorithm : Algorithm) (signed : List ℕ) (bits : Bits) where
  abbrev pub at : Answer → Ordering
  at a = rank_cmp (answer_rank a) (rank key signed bits)

  abbrev pub about : Answer → Bool
  about a = is_about key algorithm signed bits (answer_plain a)

  same_octets : (a b : Bits) → same_bits a b ≡ true → a.octets ≡ b.octets
  same_octets a b e = let same = (bytes_decides (bit_contents a) (bit_contents b)).0 e in cc

  of_rank : (a : Answer) → about a ≡ true → answer_rank a ≡ rank key signed bits
  unfolding is_about
  of_rank a e =
      let one = and_parts (bytes_eq a.signed.items signed) _ e in
      let two = and_parts (same_bits a.bits bits) _ one.1 in
      let three = and_parts (same_algorithm (algorithm_plain a.algorithm) algorithm) (same_key (key_plain a.key) key) two.1 in
      let four = and_parts (same_algorithm (key_algorithm (key_plain a.key)) (key_algorithm key)) (same_bits (key_bits (key_plain a.key)) (key_bits key)) three.1 in
      let first = (bytes_decides a.signed.items signed).0 one.0 in
      let second = same_octets a.bits bits two.0 in
      let third = same_octets (key_bits (key_plain a.key)) (key_bits key) four.1 in
      cc

  tied : (a : Answer) → about a ≡ true → at a ≡ Equal
  tied a e = ap (λ r. rank_cmp r (rank key signed bits)) (of_rank a e) ∙ tied_itself rank_cmp_total (rank key signed bits)

  before : (a : Answer) → is_lt (at a) ≡ true → about a ≡ false
  before a less = by (about a) refl
    where
      by : (b : Bool) → about a ≡ b → about a ≡ false
      by false e = e
      by true e = absurd (cc (ap is_lt (tied a e), less))

  behind : (a : Answer) → is_le (at a) ≡ false → about a ≡ false
  behind a greater = by (about a) refl
    where
      by : (b : Bool) → about a ≡ b → about a ≡ false
      by false e = e
      by true e = absurd (cc (ap is_le (tied a e), greater))

  -- The indexes that the search finds.

  less_index : (o : Ordering) → ltb (ordering_index o) 1 ≡ is_lt o
  less_index Less = refl
  less_index Equal = refl
  less_index Greater = refl

  most_index : (o : Ordering) → leb (ordering_index o) 1 ≡ is_le o
  most_index Less = refl
  most_index Equal = refl
  most_index Greater = refl

  module _ (xs : List Answer) (sorted : IsSortedByKey answer_rank rank_cmp xs) where
    pub parted_less : IsPartitionedBy (λ a. is_lt (at a)) xs
    parted_less i j d h k e =
        let rise = searchable_from_sorted rank_cmp_total answer_rank xs (rank key signed bits) sorted in
        sym (less_index (at (get_or xs i d))) ∙ IsPartitionedBy-ltb (λ a. ordering_index (at a)) xs 1 rise i j d h k (less_index (at (get_or xs j d)) ∙ e)

    -- The answers from an index on.
    pub parted_most : (start : ℕ) → IsPartitionedBy (λ a. is_le (at a)) (drop start xs)
    parted_most start i j d h k e =
        let rise = searchable_from_sorted rank_cmp_total answer_rank xs (rank key signed bits) sorted in
        let there = IsPartitionedBy-leb (λ a. ordering_index (at a)) xs 1 rise (start + i) (start + j) d (omega arith) (omega (arith, length-drop start xs)) in
        ap (λ a. is_le (at a)) (get_or-drop start xs i d)
        ∙ sym (most_index (at (get_or xs (start + i) d)))
        ∙ there (most_index (at (get_or xs (start + j) d)) ∙ ap (λ a. is_le (at a)) (sym (get_or-drop start xs j d)) ∙ e)

-- A part of a list outside of which no element passes.

module _ {X : Type 0} (test : X → Bool) where
  pub any_drop : (xs : List X) (n : ℕ) → AllWithin (λ x. test x ≡ false) xs 0 n → list_any test xs ≡ list_any test (drop n xs)
  any_drop xs zero none = refl
  any_drop [] (suc n) none = refl
  any_drop (x ∷ xs) (suc n) none =
      ap (λ b. b || list_any test xs) (none 0 x (omega arith) (omega arith))
      ∙ any_drop xs n (λ k d l h. none (suc k) d (omega arith) (omega arith))

  pub any_take : (xs : List X) (n : ℕ) → AllWithin (λ x. test x ≡ false) xs n (length xs) → list_any test xs ≡ list_any test (take n xs)
  any_take [] zero none = refl
  any_take [] (suc n) none = refl
  any_take (x ∷ xs) zero none =
      ap (λ b. b || list_any test xs) (none 0 x (omega arith) (omega arith))
      ∙ any_take xs zero (λ k d l h. none (suc k) d (omega arith) (omega arith))
  any_take (x ∷ xs) (suc n) none = ap (λ b. test x || b) (any_take xs n (λ k d l h. none (suc k) d (omega arith) (omega arith)))

  pub any_map : {Y : Type 0} (f : Y → X) (ys : List Y) → list_any test (map f ys) ≡ list_any (λ y. test (f y)) ys
  any_map f [] = refl
  any_map f (y ∷ ys) = ap (λ b. test (f y) || b) (any_map f ys)

-- The answers about a signature are between the indexes that the search finds.
module _ (key : PublicKey) (algorithm : Algorithm) (signed : List ℕ) (bits : Bits) where
  abbrev passes : Answer → Bool
  passes = about key algorithm signed bits

  pub found : (xs rest part : List Answer) (first count : ℕ) → rest ≡ drop first xs → part ≡ take count rest
      → AllWithin (λ a. is_lt (at key algorithm signed bits a) ≡ true) xs 0 first
      → AllWithin (λ a. is_le (at key algorithm signed bits a) ≡ false) rest count (length rest)
      → list_any passes xs ≡ list_any passes part
  found xs rest part first count r p less greater =
      any_drop passes xs first (λ k d l h. before key algorithm signed bits (get_or xs k d) (less k d l h))
      ∙ ap (list_any passes) (sym r)
      ∙ any_take passes rest count (λ k d l h. behind key algorithm signed bits (get_or rest k d) (greater k d l h))
      ∙ ap (list_any passes) (sym p)
