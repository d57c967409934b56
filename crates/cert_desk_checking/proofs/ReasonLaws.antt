-- Laws about the reasons why a certificate breaks a rule.
use Rattle.std.proofs.Common.{◌≡◌, ℕ, zero, suc, ◌+◌, ◌-◌, ◌<◌, ◌⊎◌, List, [], ◌∷◌, Bool, true, false, cond, not, ◌&&◌, ◌||◌, Option, Some, None, IfOk, IfSome, Result, Ok, Err, IsSome, length, drop, get_or, slice_get, inl, inr, sym, ap, ◌∙◌, refl, subst, arith}
use Rattle.std.proofs.lemmas.List.{at_drop_more}
use Rattle.std.proofs.lemmas.Bool.{and_left, and_right, both_ways, cases_order, false_from_ne_true, or_left, or_right}
use Rattle.std.specs.List.{list_all, list_any}
use Rattle.std.specs.Option.{is_some, option_map_or}
use Rattle.x509_cert_anchors.specs.Oid.Bound.{Bound}
use Rattle.x509_cert_anchors.specs.Der.Grammar.{plain_list}
use Rattle.x509_cert_anchors.specs.CertCertificates.Certificates.{PlainCertificate, extensions_of}
use Rattle.x509_cert_anchors.specs.CertParts.Grammar.{PlainExtension}
use Rattle.cert_desk_rules.specs.declared.findings.Findings.{Findings}
use Rattle.cert_desk_rules.specs.declared.reason.Reason.{Reason}
use Rattle.cert_desk_rules.specs.declared.reason.Reason.TheVariants as reasons
use Rattle.cert_desk_rules.specs.declared.rule.Rule.{Rule}
use Rattle.cert_desk_rules.specs.declared.rule.Rule.TheVariants as rules
use Rattle.cert_desk_rules.specs.Findings.{found}
use Rattle.cert_desk_rules.specs.Judging.{Terms, has_twin, keeps_at}
use Rattle.cert_desk_rules.specs.Paths.{used_up, counts, is_last, is_within, keep_lengths, keeps_length}
use Rattle.cert_desk_rules.specs.Reasons.{AreFirstTwins, Explains, ExplainsFirst, IsFirstAt, Precedes, are_twins, goes_against, has_no_authority, have_one_identifier, is_against, is_at, is_explained}
use Rattle.cert_desk_rules.specs.Weighing.{is_authority, may_certify, path_length, serves, weigh}
use Rattle.cert_desk_rules.proofs.Folds.{and_yes, not_twice, or_no}
use Rattle.cert_desk_rules.proofs.FoundLaws.{found_malformed, found_unweighed, found_serves, found_certifies, found_length}
use Rattle.cert_desk_rules.proofs.PathLaws.{used_up_first}
use Rattle.cert_desk_checking.proofs.PlaceLaws.{keeps_at-is}

-- The element at an index of a list of plain values.
pub at-plain : {A B : Type 0} (plain : A → B) (test : B → Bool) (xs : List A) (i : ℕ) (x : A) → i < length xs → x ≡ get_or xs i x
    → is_at test (plain_list plain xs) i ≡ test (plain x)
at-plain plain test [] i x lt is = absurd (omega arith)
at-plain plain test (y ∷ ys) zero x lt is = ap (λ z. test (plain z)) (sym is)
at-plain plain test (y ∷ ys) (suc i) x lt is = at-plain plain test ys i x (omega arith) is

-- A test at an index of a suffix of the list.
pub at-drop : {A B : Type 0} (plain : A → B) (test : B → Bool) (n i : ℕ) (xs : List A)
    → is_at test (plain_list plain (drop n xs)) i ≡ is_at test (plain_list plain xs) (n + i)
at-drop plain test zero i [] = refl
at-drop plain test zero i (x ∷ xs) = let e : i ≡ 0 + i = omega arith in ap (λ k. is_at test (plain_list plain (x ∷ xs)) k) e
at-drop plain test (suc n) i [] = refl
at-drop plain test (suc n) i (x ∷ xs) =
    let e : suc (n + i) ≡ suc n + i = omega arith in
    at-drop plain test n i xs ∙ ap (λ k. is_at test (plain_list plain (x ∷ xs)) k) e

-- If an element fails a test, the search goes on after it.
pub any-more : {A B : Type 0} (plain : A → B) (test : B → Bool) (xs : List A) (i : ℕ) (x : A) → i < length xs → x ≡ get_or xs i x → test (plain x) ≡ false
    → list_any test (plain_list plain (drop (i + 1) xs)) ≡ list_any test (plain_list plain (drop i xs))
any-more {A} plain test xs i x lt is fails =
    sym (at_drop_more (λ (ys : List A). list_any test (plain_list plain ys)) xs i x lt
    ∙ ap (λ (y : A). test (plain y) || list_any test (plain_list plain (drop (i + 1) xs))) (sym is)
    ∙ ap (λ b. b || list_any test (plain_list plain (drop (i + 1) xs))) fails)

-- The findings about a single extension are those of that extension.
pub against_alone : (bound : ℕ) (purpose : List ℕ) (rule : Rule) (e : PlainExtension) → goes_against (found bound purpose (e ∷ [])) rule ≡ is_against bound purpose rule e
against_alone bound purpose rules.MalformedExtension e = found_malformed bound purpose (e ∷ []) ∙ sym (or_no _)
against_alone bound purpose rules.UnweighedCritical e = found_unweighed bound purpose (e ∷ []) ∙ sym (or_no _)
against_alone bound purpose rules.AgainstPurpose e = ap not (found_serves bound purpose (e ∷ []) ∙ sym (and_yes _))
against_alone bound purpose rules.NotAuthority e = ap not (found_certifies bound purpose (e ∷ []) ∙ sym (and_yes _))
against_alone bound purpose _ e = refl

-- An element that passes a test.
pub any-at : {A : Type 0} (test : A → Bool) (xs : List A) (i : ℕ) → is_at test xs i ≡ true → list_any test xs ≡ true
any-at test [] i h = absurd cc
any-at test (x ∷ xs) zero h = or_left (test x) (list_any test xs) h
any-at test (x ∷ xs) (suc i) h = or_right (test x) (list_any test xs) (any-at test xs i h)

-- If one element fails a test, not all pass it.
not-both : (b c d : Bool) → c ≡ not d → (not b || c) ≡ not (b && d)
not-both true c d e = e
not-both false c d e = refl

pub any-not : {A : Type 0} (test : A → Bool) (xs : List A) → list_any (λ x. not (test x)) xs ≡ not (list_all test xs)
any-not test [] = refl
any-not test (x ∷ xs) = not-both (test x) (list_any (λ y. not (test y)) xs) (list_all test xs) (any-not test xs)

-- Of two extensions with the same OID, the first has a later one with its OID.
pub twins-have : (es : List PlainExtension) (one other : ℕ) → one < other → are_twins es one other ≡ true → has_twin es one ≡ true
twins-have [] one other lt h = absurd cc
twins-have (e ∷ es) zero zero lt h = absurd (omega (arith, lt))
twins-have (e ∷ es) zero (suc other) lt h = ap (λ b. not (not b)) (any-at (have_one_identifier e) es other h)
twins-have (e ∷ es) (suc one) zero lt h = absurd (omega (arith, lt))
twins-have (e ∷ es) (suc one) (suc other) lt h = twins-have es one other (omega (arith, lt)) h

-- The number of certificates that count, with one certificate fewer.
pub used_up_less : (bound : ℕ) (cs : List PlainCertificate) (before place left : ℕ) → before < place
    → left ≡ used_up bound cs (before + 1) (place - before)
    → left ≡ cond (counts bound cs (before + 1)) 1 0 + used_up bound cs (before + 1 + 1) (place - (before + 1))
used_up_less bound cs before place left lt is =
    let many : place - before ≡ suc (place - (before + 1)) = omega (arith, lt) in
    let next : suc (before + 1) ≡ before + 1 + 1 = omega arith in
    is ∙ ap (used_up bound cs (before + 1)) many ∙ used_up_first bound cs (before + 1) (place - (before + 1))
    ∙ ap (λ m. cond (counts bound cs (before + 1)) 1 0 + used_up bound cs m (place - (before + 1))) next

-- The findings about a certificate decide whether its path length is kept.
pub length-found : (bound : ℕ) (purpose : List ℕ) (cs : List PlainCertificate) (before place n : ℕ) (c : PlainCertificate) (es : List PlainExtension) (f : Findings)
    → slice_get cs before ≡ Some c → es ≡ extensions_of c → f ≡ found bound purpose es → n ≡ used_up bound cs (before + 1) (place - before)
    → is_within n f.path_len ≡ keeps_length bound cs before place
length-found bound purpose cs before place n c es f at e is count =
    ap (λ (g : Findings). is_within n g.path_len) is
    ∙ found_length bound purpose es n
    ∙ ap (λ (m : ℕ). list_all (λ x. is_within m (path_length (weigh bound x))) es) count
    ∙ ap (λ (xs : List PlainExtension). list_all (λ x. is_within (used_up bound cs (before + 1) (place - before)) (path_length (weigh bound x))) xs)
    (e ∙ ap (λ o. option_map_or extensions_of o []) (sym at))

-- The first pair with the same OID, by the first extension that has a later one with its OID.
pub first-twins : {A : Type 0} (plain : A → PlainExtension) (xs : List A) (first number : ℕ) (x : A) → first < length xs → x ≡ get_or xs first x
    → ((other : ℕ) → other < first → has_twin (plain_list plain xs) other ≡ false)
    → IsFirstAt (have_one_identifier (plain x)) (plain_list plain (drop (first + 1) xs)) number → AreFirstTwins (plain_list plain xs) first (first + 1 + number)
first-twins {A} plain xs first number x within is none here = (omega arith, at (first + 1 + number) ∙ sym (rest number) ∙ here.0, least)
  where
    at : (other : ℕ) → are_twins (plain_list plain xs) first other ≡ is_at (have_one_identifier (plain x)) (plain_list plain xs) other
    at other = at-plain plain (λ e. is_at (have_one_identifier e) (plain_list plain xs) other) xs first x within is

    rest : (i : ℕ) → is_at (have_one_identifier (plain x)) (plain_list plain (drop (first + 1) xs)) i ≡ is_at (have_one_identifier (plain x)) (plain_list plain xs) (first + 1 + i)
    rest i = at-drop plain (have_one_identifier (plain x)) (first + 1) i xs

    least : (one other : ℕ) → one < other → (one < first) ⊎ ((one ≡ first) × (other < first + 1 + number)) → are_twins (plain_list plain xs) one other ≡ false
    least one other lt before = false_from_ne_true _ (λ twins. elim before [
      | inl less ↦ both_ways _ (none one less) (twins-have (plain_list plain xs) one other lt twins)
      | inr (same, less) ↦
          let whole : first + 1 + (other - (first + 1)) ≡ other = omega (arith, lt, same) in
          both_ways _ (here.1 (other - (first + 1)) (omega (arith, less, lt, same)))
          (rest (other - (first + 1)) ∙ ap (λ m. is_at (have_one_identifier (plain x)) (plain_list plain xs) m) whole ∙ sym (at other)
          ∙ subst (λ m. are_twins (plain_list plain xs) m other ≡ true) same twins)
    ])

-- A path length that is exceeded.
pub lengths-broken : (bound : ℕ) (cs : List PlainCertificate) (before n other : ℕ) → before < n → keeps_length bound cs before other ≡ false → keep_lengths bound cs n other ≡ false
lengths-broken bound cs before zero other lt h = absurd (omega (arith, lt))
lengths-broken bound cs before (suc n) other lt h =
    elim (cases_order before n) [
      | inl e ↦ and_right (keep_lengths bound cs n other) _ (subst (λ m. keeps_length bound cs m other ≡ false) e h)
      | inr (inl below) ↦ and_left _ (keeps_length bound cs n other) (lengths-broken bound cs before n other below h)
      | inr (inr above) ↦ absurd (omega (arith, lt, above))
    ]

-- A reason that exists.
pub is-some-by : {A : Type 0} (o : Option A) → is_some o ≡ true → IsSome o
is-some-by None h = absurd cc
is-some-by (Some x) h = refl

pub told-where : {A E : Type 0} {b : Bool} (F : Option A → Type 0) (r : Result (Option A) E) → IfOk r (λ o. is_some o ≡ b) → ((o : Option A) → is_some o ≡ b → F o) → IfOk r F
told-where F (Ok o) h f = f o h
told-where F (Err e) h f = tt

-- The first reason why a path is too long.
module _ (bound : ℕ) (purpose : List ℕ) (cs : List PlainCertificate) (place : ℕ) where
  pub first-length : (before : ℕ) → before < place → keeps_length bound cs before place ≡ false → keep_lengths bound cs before place ≡ true
      → ExplainsFirst bound purpose cs place rules.PathTooLong (reasons.PathLength before)
  first-length before lt broken kept = ((refl, lt, broken), none)
    where
      none : (other : Reason) → Precedes other (reasons.PathLength before) → Explains bound purpose cs place rules.PathTooLong other → ⊥
      none (reasons.Extension n) less h = absurd less
      none (reasons.Twins one other) less h = absurd less
      none reasons.NoConstraints less h = absurd less
      none (reasons.PathLength n) less h = both_ways _ (lengths-broken bound cs n before place less h.2) kept

-- The reason why a path is too long is that of the rule.
pub length-explained : {E : Type 0} (bound : ℕ) (purpose : List ℕ) (cs : List PlainCertificate) (place : ℕ) (rule : Rule) (r : Result (Option Reason) E) → rule ≡ rules.PathTooLong
    → IfOk r (λ told. IfSome told (λ reason. (before : ℕ) × (reason ≡ reasons.PathLength before) × (before < place) × (keeps_length bound cs before place ≡ false) × (keep_lengths bound cs before place ≡ true)))
    → IfOk r (λ told. IfSome told (ExplainsFirst bound purpose cs place rule))
length-explained bound purpose cs place rule (Ok None) is h = tt
length-explained bound purpose cs place rule (Ok (Some reason)) is h =
    subst (λ (x : Reason). ExplainsFirst bound purpose cs place rule x) (sym h.1)
    (subst (λ (k : Rule). ExplainsFirst bound purpose cs place k (reasons.PathLength h.0)) (sym is) (first-length bound purpose cs place h.0 h.2 h.3 h.4))
length-explained bound purpose cs place rule (Err error) is h = tt

-- A certificate breaks a rule that has reasons.
module _ (t : Terms) (cs : List PlainCertificate) (stream : List ℕ) (place : ℕ) (c : PlainCertificate) (at : slice_get cs place ≡ Some c) (bound : t.bound ≡ Bound) where
  pub broken-malformed : list_any (is_against Bound t.purpose rules.MalformedExtension) (extensions_of c) ≡ not (keeps_at rules.MalformedExtension t cs stream place)
  broken-malformed =
      not_twice _ ∙ ap (λ (b : ℕ). not (not (list_any (is_against b t.purpose rules.MalformedExtension) (extensions_of c)))) (sym bound)
      ∙ ap not (sym (keeps_at-is rules.MalformedExtension t cs stream place c at))

  pub broken-unweighed : list_any (is_against Bound t.purpose rules.UnweighedCritical) (extensions_of c) ≡ not (keeps_at rules.UnweighedCritical t cs stream place)
  broken-unweighed =
      not_twice _ ∙ ap (λ (b : ℕ). not (not (list_any (is_against b t.purpose rules.UnweighedCritical) (extensions_of c)))) (sym bound)
      ∙ ap not (sym (keeps_at-is rules.UnweighedCritical t cs stream place c at))

  pub broken-purpose : list_any (is_against Bound t.purpose rules.AgainstPurpose) (extensions_of c) ≡ not (keeps_at rules.AgainstPurpose t cs stream place)
  broken-purpose =
      any-not (λ e. serves t.purpose (weigh Bound e)) (extensions_of c)
      ∙ ap (λ (b : ℕ). not (list_all (λ e. serves t.purpose (weigh b e)) (extensions_of c))) (sym bound)
      ∙ ap not (sym (keeps_at-is rules.AgainstPurpose t cs stream place c at))

  pub broken-authority : (purpose : List ℕ) → is_last cs place ≡ false
      → (has_no_authority Bound (extensions_of c) || list_any (is_against Bound purpose rules.NotAuthority) (extensions_of c)) ≡ not (keeps_at rules.NotAuthority t cs stream place)
  broken-authority purpose before =
      ap (λ b. has_no_authority Bound (extensions_of c) || b) (any-not (λ e. may_certify (weigh Bound e)) (extensions_of c))
      ∙ not-both (list_any (λ e. is_authority (weigh Bound e)) (extensions_of c)) (not (list_all (λ e. may_certify (weigh Bound e)) (extensions_of c))) (list_all (λ e. may_certify (weigh Bound e)) (extensions_of c)) refl
      ∙ ap (λ (b : ℕ). not (list_any (λ e. is_authority (weigh b e)) (extensions_of c) && list_all (λ e. may_certify (weigh b e)) (extensions_of c))) (sym bound)
      ∙ ap (λ b. not (b || (list_any (λ e. is_authority (weigh t.bound e)) (extensions_of c) && list_all (λ e. may_certify (weigh t.bound e)) (extensions_of c)))) (sym before)
      ∙ ap not (sym (keeps_at-is rules.NotAuthority t cs stream place c at))

  pub broken-extension : (rule : Rule) → (rule ≡ rules.MalformedExtension) ⊎ ((rule ≡ rules.UnweighedCritical) ⊎ (rule ≡ rules.AgainstPurpose))
      → list_any (is_against Bound t.purpose rule) (extensions_of c) ≡ (is_explained rule && not (keeps_at rule t cs stream place))
  broken-extension rule (inl e) = subst (λ r. list_any (is_against Bound t.purpose r) (extensions_of c) ≡ (is_explained r && not (keeps_at r t cs stream place))) (sym e) broken-malformed
  broken-extension rule (inr (inl e)) = subst (λ r. list_any (is_against Bound t.purpose r) (extensions_of c) ≡ (is_explained r && not (keeps_at r t cs stream place))) (sym e) broken-unweighed
  broken-extension rule (inr (inr e)) = subst (λ r. list_any (is_against Bound t.purpose r) (extensions_of c) ≡ (is_explained r && not (keeps_at r t cs stream place))) (sym e) broken-purpose
