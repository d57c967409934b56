-- Laws about the rules in their order: the number of each rule, and the search for the first broken
-- one.
use Rattle.std.proofs.Common.{◌≡◌, ℕ, zero, suc, ◌-◌, ◌<◌, List, [], ◌∷◌, ◌++◌, length, get_or, Bool, true, false, not, ◌&&◌, cond, nat_lt, Option, Some, refl, sym, ap, ◌∙◌, subst, arith, inl, inr}
use Rattle.std.specs.List.{find, list_all}
use Rattle.std.proofs.lemmas.Bool.{and_parts, and_from, cases_lt, ltb-true}
use Rattle.std.proofs.lemmas.List.{get_or_past}
use Rattle.std.proofs.lemmas.Option.{same_Some}
use Rattle.cert_desk_rules.specs.declared.rule.Rule.{Rule}
use Rattle.cert_desk_rules.specs.declared.rule.Rule.TheVariants as rules
use Rattle.cert_desk_rules.specs.Judging.{number, before_signature, in_order}

-- The rule with this number.
abbrev rule_at : ℕ → Rule
rule_at n = get_or before_signature (n - 1) rules.WrongSignature

at_number : (rule : Rule) → rule_at (number rule) ≡ rule
at_number rules.AlgorithmsDiffer = refl
at_number _ = refl

-- A test that all elements of a list pass.
all_at : {A : Type 0} (test : A → Bool) (xs : List A) (d : A) (i : ℕ) → list_all test xs ≡ true → i < length xs → test (get_or xs i d) ≡ true
all_at test [] d i h lt = absurd (omega arith)
all_at test (x ∷ xs) d zero h lt = (and_parts (test x) (list_all test xs) h).0
all_at test (x ∷ xs) d (suc i) h lt = all_at test xs d i (and_parts (test x) (list_all test xs) h).1 (omega arith)

all_from : {A : Type 0} (test weaker : A → Bool) (xs : List A) → list_all test xs ≡ true → ((x : A) → test x ≡ true → weaker x ≡ true) → list_all weaker xs ≡ true
all_from test weaker [] h so = refl
all_from test weaker (x ∷ xs) h so =
    let both = and_parts (test x) (list_all test xs) h in
    and_from (weaker x) (list_all weaker xs) (so x both.0) (all_from test weaker xs both.1 so)

-- A test that all rules before that of the signature pass, and each of them.
pub test_of_all : (test : Rule → Bool) → list_all test before_signature ≡ true → (rule : Rule) → number rule < number rules.WrongSignature → test rule ≡ true
test_of_all test h rule lt =
    subst (λ (x : Rule). test x ≡ true) (at_number rule) (all_at test before_signature rules.WrongSignature (number rule - 1) h (omega (arith, lt)))

are_before : list_all (λ rule. nat_lt (number rule) (number rules.WrongSignature)) before_signature ≡ true
are_before = refl

pub all_of_tests : (test : Rule → Bool) → ((rule : Rule) → number rule < number rules.WrongSignature → test rule ≡ true) → list_all test before_signature ≡ true
all_of_tests test passes = all_from (λ rule. nat_lt (number rule) (number rules.WrongSignature)) test before_signature are_before (λ rule e. passes rule (ltb-true (number rule) (number rules.WrongSignature) e))

-- Each rule is one of those before the signature, or that of the signature.
pub or_signature : (P : Rule → Type 0) → ((rule : Rule) → number rule < number rules.WrongSignature → P rule) → P rules.WrongSignature → (rule : Rule) → P rule
or_signature P before signature rule =
    elim (cases_lt (number rule) (number rules.WrongSignature)) [
      | inl lt ↦ before rule lt
      | inr ge ↦ subst P (sym (get_or_past before_signature (number rule - 1) rules.WrongSignature (omega (arith, ge))) ∙ at_number rule) signature
    ]

-- The order that ends with the signature.

get_or-last : {A : Type 0} (xs : List A) (d : A) (i : ℕ) → get_or (xs ++ d ∷ []) i d ≡ get_or xs i d
get_or-last [] d zero = refl
get_or-last [] d (suc i) = refl
get_or-last (x ∷ xs) d zero = refl
get_or-last (x ∷ xs) d (suc i) = get_or-last xs d i

in_place : (rule : Rule) → get_or in_order (number rule - 1) rules.WrongSignature ≡ rule
in_place rule = get_or-last before_signature rules.WrongSignature (number rule - 1) ∙ at_number rule

within_order : (rule : Rule) → number rule - 1 < number rules.WrongSignature
within_order rule =
    elim (cases_lt (number rule - 1) (number rules.WrongSignature)) [
      | inl lt ↦ lt
      | inr ge ↦ absurd (omega (arith, ge, ap number (sym (in_place rule) ∙ get_or_past in_order (number rule - 1) rules.WrongSignature ge)))
    ]

-- The numbers rise along a list of rules.
abbrev rise : List Rule → Bool
rise [] = true
rise (x ∷ xs) = list_all (λ later. nat_lt (number x) (number later)) xs && rise xs

module _ (kept : Rule → Bool) where
  abbrev first_in : List Rule → Option Rule
  first_in xs = find (λ rule. not (kept rule)) xs

  -- The rule that is found is broken.
  pub broken_is : (xs : List Rule) (rule : Rule) → first_in xs ≡ Some rule → kept rule ≡ false
  broken_is [] rule e = absurd cc
  broken_is (x ∷ xs) rule e = by (kept x) refl (broken_is xs rule) e
    where
      by : (b : Bool) → kept x ≡ b → (first_in xs ≡ Some rule → kept rule ≡ false) → cond (not b) (Some x) (first_in xs) ≡ Some rule → kept rule ≡ false
      by true is so e = so e
      by false is so e = ap kept (same_Some rule x (sym e)) ∙ is

  -- The rules before it are kept.
  before_kept : (xs : List Rule) (rule d : Rule) → rise xs ≡ true → first_in xs ≡ Some rule → (i : ℕ) → i < length xs → number (get_or xs i d) < number rule → kept (get_or xs i d) ≡ true
  before_kept [] rule d up e i lt less = absurd (omega arith)
  before_kept (x ∷ xs) rule d up e i lt less =
      let both = and_parts (list_all (λ later. nat_lt (number x) (number later)) xs) (rise xs) up in
      by (kept x) refl both.0 (before_kept xs rule d both.1) i e lt less
    where
      by : (b : Bool) → kept x ≡ b → list_all (λ later. nat_lt (number x) (number later)) xs ≡ true
          → (first_in xs ≡ Some rule → (i : ℕ) → i < length xs → number (get_or xs i d) < number rule → kept (get_or xs i d) ≡ true)
          → (i : ℕ) → cond (not b) (Some x) (first_in xs) ≡ Some rule → i < suc (length xs) → number (get_or (x ∷ xs) i d) < number rule → kept (get_or (x ∷ xs) i d) ≡ true
      by true is up so zero e lt less = is
      by true is up so (suc i) e lt less = so e i (omega arith) less
      by false is up so zero e lt less = absurd (omega (arith, less, ap number (same_Some x rule e)))
      by false is up so (suc i) e lt less =
          let later = ltb-true (number x) (number (get_or xs i d)) (all_at (λ later. nat_lt (number x) (number later)) xs d i up (omega arith)) in
          absurd (omega (arith, less, later, ap number (same_Some x rule e)))

  found_at : (xs : List Rule) (d : Rule) (i : ℕ) → rise xs ≡ true → i < length xs → kept (get_or xs i d) ≡ false
      → ((other : Rule) → number other < number (get_or xs i d) → kept other ≡ true) → first_in xs ≡ Some (get_or xs i d)
  found_at [] d i up lt broken before = absurd (omega arith)
  found_at (x ∷ xs) d zero up lt broken before = ap (λ (b : Bool). cond (not b) (Some x) (first_in xs)) broken
  found_at (x ∷ xs) d (suc i) up lt broken before =
      let both = and_parts (list_all (λ later. nat_lt (number x) (number later)) xs) (rise xs) up in
      let later = ltb-true (number x) (number (get_or xs i d)) (all_at (λ later. nat_lt (number x) (number later)) xs d i both.0 (omega arith)) in
      ap (λ (b : Bool). cond (not b) (Some x) (first_in xs)) (before x later) ∙ found_at xs d i both.1 (omega arith) broken before

  -- The first broken rule is broken and the rules with lower numbers are kept, and conversely.
  pub first_broken : (rule : Rule) → first_in in_order ≡ Some rule → (kept rule ≡ false) × ((other : Rule) → number other < number rule → kept other ≡ true)
  first_broken rule e = (
    broken_is in_order rule e,
    λ other less.
        subst (λ (x : Rule). kept x ≡ true) (in_place other)
        (before_kept in_order rule rules.WrongSignature refl e (number other - 1) (within_order other) (subst (λ (x : Rule). number x < number rule) (sym (in_place other)) less)),
  )

  pub is_first : (rule : Rule) → kept rule ≡ false → ((other : Rule) → number other < number rule → kept other ≡ true) → first_in in_order ≡ Some rule
  is_first rule broken before =
      subst (λ (x : Rule). first_in in_order ≡ Some x) (in_place rule)
      (found_at in_order rules.WrongSignature (number rule - 1) refl (within_order rule) (subst (λ (x : Rule). kept x ≡ false) (sym (in_place rule)) broken)
      (λ other less. before other (subst (λ (x : Rule). number other < number x) (in_place rule) less)))

-- Equivalent tests find the same rule.
pub find_same : (kept other : Rule → Bool) → ((rule : Rule) → kept rule ≡ other rule) → (xs : List Rule) → find (λ rule. not (kept rule)) xs ≡ find (λ rule. not (other rule)) xs
find_same kept other same [] = refl
find_same kept other same (x ∷ xs) =
    ap (λ (b : Bool). cond (not b) (Some x) (find (λ rule. not (kept rule)) xs)) (same x)
    ∙ ap (λ (o : Option Rule). cond (not (other x)) (Some x) o) (find_same kept other same xs)
