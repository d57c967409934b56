-- Chains keep the same rules under a larger bound of arcs, unless an extension can only be decoded
-- there.
use Rattle.std.proofs.Common.{◌≡◌, ℕ, zero, suc, ◌+◌, ◌-◌, ◌≤◌, ◌⊎◌, inl, inr, List, [], ◌∷◌, Bool, true, not, ◌&&◌, ◌||◌, cond, Option, Some, None, slice_get, refl, sym, ap, ◌∙◌, subst}
use Rattle.std.specs.List.{AllByRecursion, list_all, list_any}
use Rattle.std.specs.Option.{option_map_or}
use Rattle.std.proofs.lemmas.Bool.{both_ways}
use Rattle.std.proofs.lemmas.List.Folds.{list_any_at}
use Rattle.std.proofs.lemmas.Option.{slice_get-get_or}
use Rattle.x509_cert_anchors.specs.Der.Shapes.{octets_of}
use Rattle.x509_cert_anchors.specs.CertCertificates.Certificates.{PlainCertificate, extensions_of, signed_start}
use Rattle.x509_cert_anchors.specs.CertCertificates.Certificates.{signed_length}
use Rattle.x509_cert_anchors.specs.CertParts.Grammar.{PlainExtension, is_critical}
use Rattle.cert_desk_rules.specs.declared.checked.Verdict.TheVariants as verdicts
use Rattle.cert_desk_rules.specs.declared.rule.Rule.{Rule}
use Rattle.cert_desk_rules.specs.declared.rule.Rule.TheVariants as rules
use Rattle.cert_desk_checking.specs.Bounded.{OneBecomesReadable, bounded}
use Rattle.cert_desk_rules.specs.DeskBundle.Chains.{Chain}
use Rattle.cert_desk_rules.specs.Judging.{PlainAnchor, Terms, has_one_algorithm, is_linked, is_named, is_signed, keeps, keeps_at}
use Rattle.cert_desk_rules.specs.Paths.{used_up, counts, extensions_at, is_last, is_within, is_within_lengths, keep_lengths, keeps_length}
use Rattle.cert_desk_rules.specs.Verdicts.{Trusted, asked}
use Rattle.cert_desk_checking.specs.WiderBounds.{IsJudgedSame}
use Rattle.cert_desk_rules.specs.Weighing.{Meaning, is_authority, is_malformed, is_unweighed, may_certify, path_length, serves, weigh}
use Rattle.cert_desk_rules.proofs.Asking.{asked_anchors, says_yes}
use Rattle.cert_desk_checking.proofs.AlikeTerms.{Alike, asked_alike, asked_of_first, verdict_alike}
use Rattle.cert_desk_rules.proofs.DeskBundle.OneChain.{fault_no_chain, one_chain}
use Rattle.cert_desk_rules.proofs.DeskBundle.SeriesLaws.{each-so}
use Rattle.cert_desk_checking.proofs.TwoBounds.{certificates_weighed, chain_wider}

any_each : {A : Type 0} (test other : A → Bool) (xs : List A) → AllByRecursion (λ x. test x ≡ other x) xs → list_any test xs ≡ list_any other xs
any_each test other [] all = refl
any_each test other (x ∷ xs) all = ap (λ b. b || list_any test xs) all.0 ∙ ap (λ b. other x || b) (any_each test other xs all.1)

all_each : {A : Type 0} (test other : A → Bool) (xs : List A) → AllByRecursion (λ x. test x ≡ other x) xs → list_all test xs ≡ list_all other xs
all_each test other [] all = refl
all_each test other (x ∷ xs) all = ap (λ b. b && list_all test xs) all.0 ∙ ap (λ b. other x && b) (all_each test other xs all.1)

each_at : {A : Type 0} (P : A → Type 0) (xs : List A) (place : ℕ) (x : A) → AllByRecursion P xs → slice_get xs place ≡ Some x → P x
each_at P [] place x all e = absurd cc
each_at P (y ∷ xs) zero x all e = let is : y ≡ x = cc in subst P is all.0
each_at P (y ∷ xs) (suc n) x all e = each_at P xs n x all.1 e

module _ (small large : ℕ) where
  -- Extensions with the same meanings pass the same tests.
  say_any : (test : Meaning → Bool) (es : List PlainExtension) → AllByRecursion (λ e. weigh small e ≡ weigh large e) es
      → list_any (λ e. test (weigh small e)) es ≡ list_any (λ e. test (weigh large e)) es
  say_any test es all = any_each (λ e. test (weigh small e)) (λ e. test (weigh large e)) es
      (each-so (λ e. weigh small e ≡ weigh large e) (λ e. test (weigh small e) ≡ test (weigh large e)) es (λ e k. ap test k) all)

  say_all : (test : Meaning → Bool) (es : List PlainExtension) → AllByRecursion (λ e. weigh small e ≡ weigh large e) es
      → list_all (λ e. test (weigh small e)) es ≡ list_all (λ e. test (weigh large e)) es
  say_all test es all = all_each (λ e. test (weigh small e)) (λ e. test (weigh large e)) es
      (each-so (λ e. weigh small e ≡ weigh large e) (λ e. test (weigh small e) ≡ test (weigh large e)) es (λ e k. ap test k) all)

  say_critical : (es : List PlainExtension) → AllByRecursion (λ e. weigh small e ≡ weigh large e) es
      → list_any (λ e. is_critical e && is_unweighed (weigh small e)) es ≡ list_any (λ e. is_critical e && is_unweighed (weigh large e)) es
  say_critical es all = any_each (λ e. is_critical e && is_unweighed (weigh small e)) (λ e. is_critical e && is_unweighed (weigh large e)) es
      (each-so (λ e. weigh small e ≡ weigh large e) (λ e. (is_critical e && is_unweighed (weigh small e)) ≡ (is_critical e && is_unweighed (weigh large e))) es
      (λ e k. ap (λ (m : Meaning). is_critical e && is_unweighed m) k) all)

  counts_same : (cs : List PlainCertificate) (place : ℕ) → counts small cs place ≡ counts large cs place
  unfolding octets_of
  counts_same cs place = refl

  used_up_same : (cs : List PlainCertificate) (from n : ℕ) → used_up small cs from n ≡ used_up large cs from n
  used_up_same cs from zero = refl
  used_up_same cs from (suc n) =
      ap (λ m. m + cond (counts small cs (from + n)) 1 0) (used_up_same cs from n)
      ∙ ap (λ b. used_up large cs from n + cond b 1 0) (counts_same cs (from + n))

module _ (t : Terms) (wide : ℕ) (cs : List PlainCertificate) (stream : List ℕ)
    (same : AllByRecursion (λ c. AllByRecursion (λ e. weigh t.bound e ≡ weigh wide e) (extensions_of c)) cs) where
  same_at : (o : Option PlainCertificate) (place : ℕ) → slice_get cs place ≡ o
      → AllByRecursion (λ e. weigh t.bound e ≡ weigh wide e) (option_map_or extensions_of o [])
  same_at None place e = tt
  same_at (Some c) place e = each_at (λ c. AllByRecursion (λ e. weigh t.bound e ≡ weigh wide e) (extensions_of c)) cs place c same e

  length_same : (place other : ℕ) → keeps_length t.bound cs place other ≡ keeps_length wide cs place other
  length_same place other =
      ap (λ n. list_all (λ e. is_within n (path_length (weigh t.bound e))) (extensions_at cs place)) (used_up_same t.bound wide cs (place + 1) (other - place))
      ∙ say_all t.bound wide (λ m. is_within (used_up wide cs (place + 1) (other - place)) (path_length m)) (extensions_at cs place) (same_at (slice_get cs place) place refl)

  lengths_same : (place other : ℕ) → keep_lengths t.bound cs place other ≡ keep_lengths wide cs place other
  lengths_same zero other = refl
  lengths_same (suc place) other =
      ap (λ b. b && keeps_length t.bound cs place other) (lengths_same place other) ∙ ap (λ b. keep_lengths wide cs place other && b) (length_same place other)

  within_same : (place : ℕ) → is_within_lengths t.bound cs place ≡ is_within_lengths wide cs place
  within_same place =
      ap (λ b. not b || keep_lengths t.bound cs place place) (counts_same t.bound wide cs place)
      ∙ ap (λ b. not (counts wide cs place) || b) (lengths_same place place)

  algorithms_same : (c : PlainCertificate) → has_one_algorithm t.bound c ≡ has_one_algorithm wide c
  unfolding octets_of
  algorithms_same c = refl

  linked_same : (place : ℕ) (c : PlainCertificate) → is_linked t cs place c ≡ is_linked (bounded t wide) cs place c
  unfolding octets_of
  linked_same zero c = refl
  linked_same (suc before) c = refl

  signed_same : (place : ℕ) (c : PlainCertificate) → is_signed t cs stream place c ≡ is_signed (bounded t wide) cs stream place c
  unfolding octets_of signed_start signed_length
  signed_same zero c = refl
  signed_same (suc before) c = refl

  module _ (place : ℕ) (c : PlainCertificate) (here : slice_get cs place ≡ Some c) where
    says : AllByRecursion (λ e. weigh t.bound e ≡ weigh wide e) (extensions_of c)
    says = same_at (Some c) place here

    keeps_same : (rule : Rule) → keeps rule t cs stream place c ≡ keeps rule (bounded t wide) cs stream place c
    keeps_same rules.AlgorithmsDiffer = algorithms_same c
    keeps_same rules.MalformedExtension = ap (λ b. not b) (say_any t.bound wide is_malformed (extensions_of c) says)
    keeps_same rules.UnweighedCritical = ap (λ b. not b) (say_critical t.bound wide (extensions_of c) says)
    keeps_same rules.WrongIssuer = linked_same place c
    keeps_same rules.AgainstPurpose = say_all t.bound wide (λ m. serves t.purpose m) (extensions_of c) says
    keeps_same rules.NotAuthority =
        ap (λ b. is_last cs place || (b && list_all (λ e. may_certify (weigh t.bound e)) (extensions_of c))) (say_any t.bound wide is_authority (extensions_of c) says)
        ∙ ap (λ b. is_last cs place || (list_any (λ e. is_authority (weigh wide e)) (extensions_of c) && b)) (say_all t.bound wide may_certify (extensions_of c) says)
    keeps_same rules.PathTooLong = within_same place
    keeps_same rules.WrongSignature = signed_same place c
    keeps_same _ = refl

  keep_same : (rule : Rule) (place : ℕ) → keeps_at rule t cs stream place ≡ keeps_at rule (bounded t wide) cs stream place
  keep_same rule place = by (slice_get cs place) refl
    where
      by : (o : Option PlainCertificate) → slice_get cs place ≡ o → option_map_or (keeps rule t cs stream place) o true ≡ option_map_or (keeps rule (bounded t wide) cs stream place) o true
      by None e = refl
      by (Some c) e = keeps_same place c e rule

  asked_same : (c : PlainCertificate) (anchors : List PlainAnchor) → asked_anchors t cs stream c anchors ≡ asked_anchors (bounded t wide) cs stream c anchors
  unfolding octets_of signed_start signed_length
  asked_same c [] = refl
  asked_same c (a ∷ more) = ap (λ n. cond (is_named t.bound c a) (cond (says_yes t cs stream 0 c a.key) 1 (1 + n)) n) (asked_same c more)

  first_same : asked_of_first t cs stream ≡ asked_of_first (bounded t wide) cs stream
  first_same = by (slice_get cs 0)
    where
      by : (o : Option PlainCertificate) → option_map_or (λ c. asked_anchors t cs stream c t.anchors) o 0 ≡ option_map_or (λ c. asked_anchors (bounded t wide) cs stream c t.anchors) o 0
      by None = refl
      by (Some c) = asked_same c t.anchors

  bounds_alike : Alike t (bounded t wide) cs stream
  bounds_alike = record { keep = keep_same; first = first_same }

pub verdicts_wider : (t : Terms) (wide limit : ℕ) (cs : List PlainCertificate) (stream : List ℕ) → t.bound ≤ wide → Chain t.bound limit cs stream
    → IsJudgedSame t (bounded t wide) limit cs stream ⊎ OneBecomesReadable t.bound wide cs
verdicts_wider t wide limit cs stream le chain =
    elim (certificates_weighed t.bound wide le limit cs chain.each) [
      | inr becomes ↦ inr becomes
      | inl same ↦
          let alike = bounds_alike t wide cs stream same in
          inl (
            verdict_alike t (bounded t wide) limit stream (λ ds k. chain_wider t.bound wide limit ds stream le k)
                (λ ds k. subst (λ (xs : List PlainCertificate). Alike t (bounded t wide) xs stream) (one_chain t.bound limit cs ds stream chain k) alike)
                (λ place offset kind v. absurd (fault_no_chain t.bound limit v.certificates cs kind stream v.found chain)),
            asked_alike t (bounded t wide) cs stream alike,
          )
    ]

-- A trusted chain has no malformed extension.
none_unread : (t : Terms) (wide limit : ℕ) (stream : List ℕ) (trusted : Trusted t limit stream) → OneBecomesReadable t.bound wide trusted.certificates → ⊥
none_unread t wide limit stream trusted p =
    let cs = trusted.certificates in
    let there : slice_get cs p.2.0 ≡ Some p.0 = slice_get-get_or cs p.2.0 p.0 p.2.1 ∙ ap (λ (x : PlainCertificate). Some x) p.2.2 in
    let kept : not (list_any (λ e. is_malformed (weigh t.bound e)) (extensions_of p.0)) ≡ true =
    sym (ap (λ o. option_map_or (keeps rules.MalformedExtension t cs stream p.2.0) o true) there) ∙ trusted.kept p.2.0 rules.MalformedExtension p.2.1 in
    let found : list_any (λ e. is_malformed (weigh t.bound e)) (extensions_of p.0) ≡ true =
    list_any_at (λ e. is_malformed (weigh t.bound e)) (extensions_of p.0) p.3.0 p.1 p.3.1 (ap (λ e. is_malformed (weigh t.bound e)) p.3.2 ∙ ap is_malformed p.4.unread) in
    both_ways _ (ap (λ b. not b) found) kept

pub trust_wider : (t : Terms) (wide limit : ℕ) (stream : List ℕ) → t.bound ≤ wide → Trusted t limit stream
    → Trusted (bounded t wide) limit stream
    × ((cs : List PlainCertificate) → Chain t.bound limit cs stream → asked t cs stream ≡ asked (bounded t wide) cs stream)
trust_wider t wide limit stream le trusted =
    elim (verdicts_wider t wide limit trusted.certificates stream le trusted.chain) [
      | inr becomes ↦ absurd (none_unread t wide limit stream trusted becomes)
      | inl same ↦ (
        same.0 verdicts.Trusted trusted,
        λ cs chain.
            subst (λ (xs : List PlainCertificate). asked t xs stream ≡ asked (bounded t wide) xs stream) (one_chain t.bound limit trusted.certificates cs stream trusted.chain chain) same.1,
      )
    ]
