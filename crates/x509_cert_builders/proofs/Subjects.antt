-- Lemmas for the subjects of domain-validated certificates and for the naming rules, RDN by RDN.
use Rattle.std.proofs.Common.{◌≡◌, List, map, [], ◌∷◌, ◌++◌, refl, ap, ◌⊎◌, length, Bool, true, false, sym, ◌∙◌, subst, append_assoc, arith, inl, inr, if◌then◌else◌, ◌==◌, not, IsPermutation, append-nil, ℕ, ◌<◌, Ok, Err, None, length-append, get_or, IsOk, is_ok, ◌||◌, cond}
use Rattle.std.specs.List.{AllByRecursion, IsDistinct, list_all}
use Rattle.x509_cert_certificates.specs.Der.Grammar.{plain_list}
use Rattle.x509_cert_certificates.proofs.Der.Results.{plain-append}
use Rattle.x509_cert_certificates.specs.CertParts.Grammar.{PlainExtension}
use Rattle.x509_cert_certificates.specs.CertParts.ExtensionSearch.{extensions_in_field}
use Rattle.x509_cert_certificates.specs.Assembling.{extensions_if_any}
use Rattle.std.proofs.lemmas.Bool.{and_parts, eqb-true, cases_lt}
use Rattle.std.proofs.lemmas.List.Folds.{list_all-append, list_any-append}
use Rattle.std.proofs.lemmas.List.Sorted.{IsPermutation-refl, length_permutation}
use Rattle.x509_cert_certificates.specs.Oid.Bound.{Bound}
use Rattle.x509_cert_certificates.specs.Der.ErrorTypes.Error.{Error as DerError}
use Rattle.x509_cert_certificates.specs.Der.ErrorTypes.ErrorKind.TheVariants as kinds
use Rattle.x509_cert_certificates.specs.Der.Shapes.{IsValid}
use Rattle.x509_cert_certificates.specs.CertNames.Names.{PlainName, TypeAndValue, type_and_value, type_of}
use Rattle.x509_cert_builders.specs.Naming.{name_types, type_behind, type_at, foreign_type, has_required, IsNamed, IsFirstFault, NamesAuthority, is_among}
use Rattle.x509_cert_builders.specs.Refusals.{IsWantOfMemory}
use Rattle.x509_cert_builders.specs.Subscribers.{AreShort, HasLongAttribute, KeepsDistinct, SameAttributes, all_stays, attributes_left, relative_in_front, domain_subject, left_of, may_stay, stays}
use Rattle.x509_cert_builders.specs.declared.build_error.Error.{Error}
use Rattle.x509_cert_builders.specs.declared.build_error.Error.TheVariants as errors
use Rattle.std.proofs.lemmas.Bool.Decides.{nat_tests}
use Rattle.std.proofs.lemmas.List.{get_or_at, take_at}
use Rattle.std.proofs.lemmas.List.Concat.{flat_map-append}
use Rattle.std.specs.BTreeSet.{BTreeSet, Updates, contains}
use Rattle.x509_cert_certificates.specs.Oid.Comparing.{owned_eq}
use Rattle.x509_cert_certificates.specs.Oid.Orders.{owned_cmp, owned_cmp_ties}
use Rattle.x509_cert_builders.specs.TypeSets.{HasTypes}

-- The abstract values of lists, and lists without their empty members.

pub plain_pushed : {A B : Type 0} (f : A → B) → (xs : List A) (y : A) → plain_list f (xs ++ y ∷ []) ≡ plain_list f xs ++ f y ∷ []
plain_pushed f xs y = plain-append f xs (y ∷ [])

-- A property of all abstract values is a property of all members.
pub all_plain : {A P : Type 0} (f : A → P) (V : P → Type 0) (xs : List A) → AllByRecursion V (plain_list f xs) → AllByRecursion (λ x. V (f x)) xs
all_plain f V [] h = tt
all_plain f V (x ∷ xs) h = (h.0, all_plain f V xs h.1)

-- A property of all members of a joined list is one of the members of both parts.
pub all_parts : {A : Type 0} (V : A → Type 0) (xs ys : List A) → AllByRecursion V (xs ++ ys) → AllByRecursion V xs × AllByRecursion V ys
all_parts V [] ys h = (tt, h)
all_parts V (x ∷ xs) ys h =
    let both = all_parts V xs ys h.1 in
    ((h.0, both.0), both.1)

pub field_back : (es : List PlainExtension) → extensions_in_field (extensions_if_any es) ≡ es
field_back [] = refl
field_back (e ∷ more) = refl

-- One more attribute was processed.
pub left_more : (kept : List TypeAndValue) (a : TypeAndValue) (more whole : List TypeAndValue)
    → kept ++ left_of (a ∷ more) ≡ whole → may_stay a ≡ true → (kept ++ a ∷ []) ++ left_of more ≡ whole
left_more kept a more whole e h =
    append_assoc kept (a ∷ []) (left_of more) ∙ ap (λ (b : Bool). kept ++ (if b then a ∷ left_of more else left_of more)) (sym h) ∙ e

pub left_same : (kept : List TypeAndValue) (a : TypeAndValue) (more whole : List TypeAndValue)
    → kept ++ left_of (a ∷ more) ≡ whole → may_stay a ≡ false → kept ++ left_of more ≡ whole
left_same kept a more whole e h = ap (λ (b : Bool). kept ++ (if b then a ∷ left_of more else left_of more)) (sym h) ∙ e

-- The attributes that were kept and the remaining ones are distinct.
all_without : {A : Type 0} (V : A → Type 0) (xs : List A) (a : A) (ys : List A) → AllByRecursion V (xs ++ a ∷ ys) → AllByRecursion V (xs ++ ys)
all_without V [] a ys h = h.1
all_without V (x ∷ xs) a ys h = (h.0, all_without V xs a ys h.1)

distinct_without : {A : Type 0} (same : A → A → Bool) (xs : List A) (a : A) (ys : List A) → IsDistinct same (xs ++ a ∷ ys) → IsDistinct same (xs ++ ys)
unfolding IsDistinct
distinct_without same [] a ys d = d.1
distinct_without same (x ∷ xs) a ys d = (all_without (λ y. same x y ≡ false) xs a ys d.0, distinct_without same xs a ys d.1)

pub distinct_more : {A : Type 0} (whole kept : List A) (a : A) (more : List A)
    → KeepsDistinct whole (kept ++ a ∷ more) → KeepsDistinct whole ((kept ++ a ∷ []) ++ more)
distinct_more whole kept a more h = λ same d. subst (IsDistinct same) (sym (append_assoc kept (a ∷ []) more)) (h same d)

pub distinct_same : {A : Type 0} (whole kept : List A) (a : A) (more : List A)
    → KeepsDistinct whole (kept ++ a ∷ more) → KeepsDistinct whole (kept ++ more)
distinct_same whole kept a more h = λ same d. distinct_without same kept a more (h same d)

-- An RDN whose attributes may all stay is unchanged.
left_whole_same : (r : List TypeAndValue) → list_all may_stay r ≡ true → left_of r ≡ r
left_whole_same [] e = refl
left_whole_same (a ∷ r) e =
    let first = and_parts (may_stay a) (list_all may_stay r) e in
    ap (λ (b : Bool). if b then a ∷ left_of r else left_of r) first.0 ∙ ap (λ w. a ∷ w) (left_whole_same r first.1)

pub left_whole : (r s : List TypeAndValue) → list_all may_stay r ≡ true → s ≡ r → IsPermutation (left_of r) s
left_whole r s e same = subst (λ w. IsPermutation w s) (same ∙ sym (left_whole_same r e)) (IsPermutation-refl s)

-- An RDN that becomes empty, and one that doesn't.
nothing : (l : List TypeAndValue) (m : PlainName) → length l ≡ 0 → relative_in_front l m ≡ m
nothing [] m e = refl
nothing (a ∷ l) m e = absurd cc

something : (l s : List TypeAndValue) (m rest : PlainName) → IsPermutation l s → (length l ≡ 0 → ⊥) → SameAttributes m rest → SameAttributes (relative_in_front l m) (s ∷ rest)
something [] s m rest p e h = absurd (e refl)
something (a ∷ l) s m rest p e h = (p, h)

-- A list of members is empty exactly if the list of their values is.
pub no_values : {A B : Type 0} (f : A → B) (xs : List A) → (length xs == 0) ≡ true → length (plain_list f xs) ≡ 0
no_values f [] e = refl
no_values f (x ∷ xs) e = omega (arith, eqb-true (length (x ∷ xs)) 0 e)

pub some_values : {A B : Type 0} (f : A → B) (xs : List A) → (length xs == 0) ≡ false → length (plain_list f xs) ≡ 0 → ⊥
some_values f [] e l = absurd cc
some_values f (x ∷ xs) e l = absurd cc

-- If distinct attributes don't make an RDN, one of them is too long.
pub too_long : {A : Type 0} (f : A → TypeAndValue) (xs : List A) (r : List TypeAndValue) (e : DerError) (Apart Long : Type 0) → plain_list f xs ≡ r → Apart → ((e.kind ≡ kinds.SetDuplicate) × (Apart → ⊥)) ⊎ Long
    → (Long → (e.kind ≡ kinds.Overflow) × (AllByRecursion (λ x. IsValid (type_and_value Bound) (f x)) xs → ⊥)) → HasLongAttribute r (errors.Asn1 e)
too_long f xs r e Apart Long same apart (inl twice) parts = absurd (twice.1 apart)
too_long f xs r e Apart Long same apart (inr long) parts = ((parts long).0, λ all. (parts long).1 (all_plain f (IsValid (type_and_value Bound)) xs (subst AreShort (sym same) all)))

-- The state of the loop: the RDNs so far became `kept`, and `more` are the remaining ones.
pub record IsLeft (n kept more : PlainName) : Type 0 where
  pub short : AreShort (attributes_left n) → AreShort (attributes_left more)
  pub same : (rest : PlainName) → SameAttributes (domain_subject more) rest → SameAttributes (domain_subject n) (kept ++ rest)
  pub stay : all_stays n ≡ true → kept ++ more ≡ n

pub left_none : (n : PlainName) → IsLeft n [] n
left_none n = record { short = λ all. all; same = λ rest h. h; stay = λ all. refl }

module _ (n kept ws more : PlainName) (r : List TypeAndValue) (next : ws ≡ r ∷ more) (h : IsLeft n kept ws) where
  here : IsLeft n kept (r ∷ more)
  here = subst (IsLeft n kept) next h

  -- If the whole name may stay, so may the next RDN.
  this_stays : all_stays n ≡ true → (not (length r == 0) ≡ true) × (list_all may_stay r ≡ true)
  this_stays all =
      let both = and_parts (all_stays kept) (all_stays (r ∷ more)) (sym (list_all-append stays kept (r ∷ more)) ∙ ap all_stays (here.stay all) ∙ all) in
      and_parts (not (length r == 0)) (list_all may_stay r) (and_parts (stays r) (all_stays more) both.1).0

  pub next_stays : all_stays n ≡ true → list_all may_stay r ≡ true
  next_stays all = (this_stays all).1

  -- If all attributes that may stay are short, so are those of the next RDN and of the later ones.
  these_short : AreShort (attributes_left n) → AreShort (left_of r) × AreShort (attributes_left more)
  these_short all = all_parts (IsValid (type_and_value Bound)) (left_of r) (attributes_left more) (here.short all)

  pub long_there : (e : Error) → IsWantOfMemory e ⊎ HasLongAttribute (left_of r) e → IsWantOfMemory e ⊎ HasLongAttribute (attributes_left n) e
  long_there e (inl memory) = inl memory
  long_there e (inr long) = inr (long.0, λ all. long.1 (these_short all).0)

  module _ (s : List TypeAndValue) (p : IsPermutation (left_of r) s) (same : list_all may_stay r ≡ true → s ≡ r) where
    pub left_out : length s ≡ 0 → IsLeft n kept more
    left_out e = record {
      short = λ all. (these_short all).1;
      same = λ rest k. here.same rest (subst (λ l. SameAttributes l rest) (sym (nothing (left_of r) (domain_subject more) (sym (length_permutation (left_of r) s p) ∙ e))) k);
      stay = λ all.
          let first = rw (sym (ap length (same (next_stays all))) ∙ e) at (this_stays all).0 in
          absurd cc;
    }

    pub left_in : (length s ≡ 0 → ⊥) → IsLeft n (kept ++ s ∷ []) more
    left_in e = record {
      short = λ all. (these_short all).1;
      same = λ rest k.
          subst (SameAttributes (domain_subject n)) (sym (append_assoc kept (s ∷ []) rest))
          (here.same (s ∷ rest) (something (left_of r) s (domain_subject more) rest p (λ z. e (length_permutation (left_of r) s p ∙ z)) k));
      stay = λ all. append_assoc kept (s ∷ []) more ∙ ap (λ x. kept ++ x ∷ more) (same (next_stays all)) ∙ here.stay all;
    }

-- All RDNs were processed.
pub left_all : (n kept : PlainName) → IsLeft n kept [] → SameAttributes (domain_subject n) kept × (all_stays n ≡ true → kept ≡ n)
left_all n kept h = (subst (SameAttributes (domain_subject n)) (append-nil kept) (h.same [] tt), λ all. sym (append-nil kept) ∙ h.stay all)

-- Checking a name, RDN by RDN.

chosen : (b c : Bool) (x t : List ℕ) (d e : Error) → (if b then Err d else if c then Ok x else Err e) ≡ Ok t → x ≡ t
chosen b c x t d e h = grind (arith, nat_tests)

one_type : (repeats : Bool) (before : List (List ℕ)) (r : List TypeAndValue) (t : List ℕ) → type_behind repeats before r ≡ Ok t → map type_of r ≡ t ∷ []
one_type repeats before [] t e = absurd cc
one_type repeats before (a ∷ []) t e = ap (λ u. u ∷ []) (chosen _ _ _ t _ _ e)
one_type repeats before (a ∷ b ∷ more) t e = absurd cc

-- The state of the loop: the RDNs so far are allowed and have the types `found`, and `more` are the
-- remaining ones.
pub record IsChecked (repeats : Bool) (n : PlainName) (found : List (List ℕ)) (more : PlainName) : Type 0 where
  pub seen : PlainName
  pub whole : n ≡ seen ++ more
  pub types : found ≡ name_types seen
  pub right : (j : ℕ) → j < length seen → IsOk (type_at repeats n j)

pub checked_none : (repeats : Bool) (n : PlainName) → IsChecked repeats n [] n
checked_none repeats n = record { seen = []; whole = refl; types = refl; right = λ j h. absurd (omega (arith, h)) }

-- A fact about the next RDN is a fact about the RDN at its index.
next_at : (repeats : Bool) (n : PlainName) (types : List (List ℕ)) (r : List TypeAndValue) (left : PlainName) → (c : IsChecked repeats n types (r ∷ left))
    → type_at repeats n (length c.seen) ≡ type_behind repeats types r
next_at repeats n types r left c =
    let k = length c.seen in
    ap (λ m. type_at repeats m k) c.whole
    ∙ ap (λ w. type_behind repeats (name_types w) (get_or (c.seen ++ r ∷ left) k [])) (take_at c.seen (r ∷ left) k refl)
    ∙ ap (type_behind repeats (name_types c.seen)) (get_or_at c.seen r left [] k refl)
    ∙ ap (λ w. type_behind repeats w r) (sym c.types)

pub checked_more : (repeats : Bool) (n : PlainName) (types : List (List ℕ)) (r : List TypeAndValue) (left : PlainName) (t : List ℕ)
    → IsChecked repeats n types (r ∷ left) → type_behind repeats types r ≡ Ok t → IsChecked repeats n (types ++ t ∷ []) left
checked_more repeats n types r left t c e =
    let here : type_at repeats n (length c.seen) ≡ Ok t = next_at repeats n types r left c ∙ e in
    record {
      seen = c.seen ++ r ∷ [];
      whole = c.whole ∙ sym (append_assoc c.seen (r ∷ []) left);
      types = ap (λ w. w ++ t ∷ []) c.types ∙ sym (flat_map-append (map type_of) c.seen (r ∷ []) ∙ ap (λ w. name_types c.seen ++ w) (ap (λ w. w ++ []) (one_type repeats types r t e)));
      right = λ j h. elim (cases_lt j (length c.seen)) [ inl low ↦ c.right j low | inr high ↦ (let same : length c.seen ≡ j = omega (arith, h, high, length-append c.seen (r ∷ [])) in subst (λ k. IsOk (type_at repeats n k)) same (ap is_ok here)) ];
    }

pub checked_fault : (repeats : Bool) (n : PlainName) (types : List (List ℕ)) (r : List TypeAndValue) (left : PlainName) (e : Error)
    → IsChecked repeats n types (r ∷ left) → type_behind repeats types r ≡ Err e → IsFirstFault repeats n e ⊎ IsWantOfMemory e
checked_fault repeats n types r left e c h =
    inl (length c.seen, omega (arith, ap length c.whole, length-append c.seen (r ∷ left)), c.right, next_at repeats n types r left c ∙ h)

pub checked_all : (repeats : Bool) (n : PlainName) (types : List (List ℕ)) → IsChecked repeats n types [] → IsNamed repeats n × (types ≡ name_types n)
checked_all repeats n types c =
    let end : n ≡ c.seen = c.whole ∙ append-nil c.seen in
    (λ i h. c.right i (subst (λ m. i < length m) end h), c.types ∙ ap name_types (sym end))

-- Each type is allowed, and a required type is missing.
pub lacking : (n : PlainName) → IsNamed false n → foreign_type (name_types n) ≡ None → has_required (name_types n) ≡ false → NamesAuthority {X = Unit {0}} n (Err errors.MissingAttributes)
lacking n named none lacks = inr (inl (named, inr (none, lacks, refl)))

-- The set of the types of a name, type by type.

either : (b c : Bool) → cond b true c ≡ (c || (b || false))
either b c = grind (arith, nat_tests)

pub one_more : (types : List (List ℕ)) (seen more : BTreeSet (List ℕ)) (t : List ℕ) → HasTypes types seen → Updates owned_cmp seen more t true → HasTypes (types ++ t ∷ []) more
one_more types seen more t has added = λ q.
    added.0 q
    ∙ ap (λ b. cond b true (contains owned_cmp seen q)) (sym (owned_cmp_ties t q))
    ∙ ap (λ b. cond (owned_eq t q) true b) (has q)
    ∙ either (owned_eq t q) (is_among types q)
    ∙ sym (list_any-append (λ u. owned_eq u q) types (t ∷ []))
