-- Certificates that follow one another in a longer list, and the rules that they keep there.
use Rattle.std.proofs.Common.{◌≡◌, ℕ, zero, suc, ◌+◌, ◌-◌, ◌<◌, ◌≤◌, ◌^◌, List, [], length, Bool, true, false, not, ◌&&◌, ◌||◌, cond, Some, slice_get, refl, sym, ap, ◌∙◌, subst, arith, inl, inr}
use Rattle.std.specs.List.{AllByRecursion, list_all}
use Rattle.std.specs.Option.{option_map_or}
use Rattle.std.proofs.lemmas.Bool.{and_from, and_parts, cases_lt, eq-eqb, eqb-true, or_cases}
use Rattle.std.proofs.lemmas.Bool.Decides.{eqb_tells}
use Rattle.std.proofs.lemmas.Option.{slice_get_cases}
use Rattle.x509_cert_anchors.specs.CertCertificates.Certificates.{PlainCertificate, extensions_of, issuer}
use Rattle.x509_cert_anchors.specs.CertCertificates.Certificates.{outer_algorithm, public_key, signature_bits}
use Rattle.x509_cert_anchors.specs.CertCertificates.Certificates.{subject}
use Rattle.cert_desk_rules.specs.declared.rule.Rule.{Rule}
use Rattle.cert_desk_rules.specs.declared.rule.Rule.TheVariants as rules
use Rattle.cert_desk_rules.specs.DeskBundle.Chains.{Stands, joined}
use Rattle.cert_desk_checking.specs.Issuers.{among}
use Rattle.cert_desk_rules.specs.Judging.{PlainAnchor, Terms, has_authority, is_linked, is_signed, keeps, keeps_at, signed_part}
use Rattle.cert_desk_rules.specs.Paths.{used_up, counts, extensions_at, is_last, is_self_issued, is_within, is_within_lengths, keep_lengths, keeps_length, same_name}
use Rattle.cert_desk_rules.specs.Verdicts.{Trusted}
use Rattle.cert_desk_rules.specs.Weighing.{path_length, weigh}
use Rattle.cert_desk_checking.proofs.Encodings.{signed_part-is}
use Rattle.cert_desk_rules.proofs.Folds.{or_yes}
use Rattle.cert_desk_rules.proofs.Asking.{says_yes}

-- The certificates cs are in ds, from an index on.
pub record Window (ds cs : List PlainCertificate) (from : ℕ) : Type 0 where
  pub at : (p : ℕ) → p < length cs → slice_get cs p ≡ slice_get ds (from + p)
  pub long : from + length cs ≤ length ds

-- The path lengths that are kept.

keep_lengths-at : (bound : ℕ) (xs : List PlainCertificate) (n other : ℕ) → keep_lengths bound xs n other ≡ true → (p : ℕ) → p < n → keeps_length bound xs p other ≡ true
keep_lengths-at bound xs zero other h p lt = absurd (omega arith)
keep_lengths-at bound xs (suc n) other h p lt =
    let both = and_parts (keep_lengths bound xs n other) (keeps_length bound xs n other) h in
    elim (cases_lt p n) [
      | inl below ↦ keep_lengths-at bound xs n other both.0 p below
      | inr above ↦ let last : n ≡ p = omega arith in subst (λ (m : ℕ). keeps_length bound xs m other ≡ true) last both.1
    ]

keep_lengths-from : (bound : ℕ) (xs : List PlainCertificate) (n other : ℕ) → ((p : ℕ) → p < n → keeps_length bound xs p other ≡ true) → keep_lengths bound xs n other ≡ true
keep_lengths-from bound xs zero other h = refl
keep_lengths-from bound xs (suc n) other h =
    and_from (keep_lengths bound xs n other) (keeps_length bound xs n other) (keep_lengths-from bound xs n other (λ p lt. h p (omega (arith, lt)))) (h n (omega arith))

-- A certificate that has one after it isn't the last.
not_last : (xs : List PlainCertificate) (p : ℕ) → suc p < length xs → is_last xs p ≡ false
not_last xs p h = elim (eqb_tells (p + 1) (length xs)) [ inl e ↦ let same = e.1 in absurd (omega arith) | inr e ↦ e.0 ]

counts_inside : (bound : ℕ) (xs : List PlainCertificate) (p : ℕ) → suc p < length xs
    → counts bound xs p ≡ option_map_or (λ c. not (is_self_issued bound c)) (slice_get xs p) false
counts_inside bound xs p h = ap (λ b. not b && option_map_or (λ c. not (is_self_issued bound c)) (slice_get xs p) false) (not_last xs p h)

module _ (bound : ℕ) (ds cs : List PlainCertificate) (from : ℕ) (w : Window ds cs from) where
  counts_at : (p : ℕ) → suc p < length cs → counts bound cs p ≡ counts bound ds (from + p)
  counts_at p h =
      let long = w.long in
      counts_inside bound cs p h
      ∙ ap (λ o. option_map_or (λ c. not (is_self_issued bound c)) o false) (w.at p (omega arith))
      ∙ sym (counts_inside bound ds (from + p) (omega arith))

  used_up_at : (p n : ℕ) → p + n < length cs → used_up bound cs p n ≡ used_up bound ds (from + p) n
  used_up_at p zero h = refl
  used_up_at p (suc n) h =
      let there : from + (p + n) ≡ (from + p) + n = omega arith in
      ap (λ m. m + cond (counts bound cs (p + n)) 1 0) (used_up_at p n (omega arith))
      ∙ ap (λ b. used_up bound ds (from + p) n + cond b 1 0) (counts_at (p + n) (omega arith) ∙ ap (counts bound ds) there)

  length_at : (p place : ℕ) → p < place → suc place < length cs → keeps_length bound cs p place ≡ keeps_length bound ds (from + p) (from + place)
  length_at p place lt h =
      let next : from + (p + 1) ≡ (from + p) + 1 = omega arith in
      let many : place - p ≡ (from + place) - (from + p) = omega arith in
      let behind : used_up bound cs (p + 1) (place - p) ≡ used_up bound ds ((from + p) + 1) ((from + place) - (from + p)) =
      used_up_at (p + 1) (place - p) (omega (arith, lt, h)) ∙ ap (λ m. used_up bound ds m (place - p)) next ∙ ap (used_up bound ds ((from + p) + 1)) many in
      ap (λ n. list_all (λ e. is_within n (path_length (weigh bound e))) (extensions_at cs p)) behind
      ∙ ap (λ o. list_all (λ e. is_within (used_up bound ds ((from + p) + 1) ((from + place) - (from + p))) (path_length (weigh bound e))) (option_map_or extensions_of o []))
      (w.at p (omega (arith, lt, h)))

  lengths_at : (place : ℕ) → suc place < length cs → keep_lengths bound ds (from + place) (from + place) ≡ true → keep_lengths bound cs place place ≡ true
  lengths_at place h kept =
      keep_lengths-from bound cs place place (λ p lt.
      length_at p place lt h ∙ keep_lengths-at bound ds (from + place) (from + place) kept (from + p) (omega (arith, lt)))

  within_at : (place : ℕ) → place < length cs → is_within_lengths bound ds (from + place) ≡ true → is_within_lengths bound cs place ≡ true
  within_at place lt kept =
      elim (cases_lt (suc place) (length cs)) [
        | inl inside ↦ inner inside (counts bound ds (from + place)) refl
        | inr last ↦
            ap (λ b. not (not b && option_map_or (λ c. not (is_self_issued bound c)) (slice_get cs place) false) || keep_lengths bound cs place place)
            (eq-eqb (place + 1) (length cs) (omega arith))
      ]
    where
      inner : suc place < length cs → (b : Bool) → counts bound ds (from + place) ≡ b → is_within_lengths bound cs place ≡ true
      inner h false e = ap (λ b. not b || keep_lengths bound cs place place) (counts_at place h ∙ e)
      inner h true e =
          let all : keep_lengths bound ds (from + place) (from + place) ≡ true = sym (ap (λ b. not b || keep_lengths bound ds (from + place) (from + place)) e) ∙ kept in
          ap (λ b. not (counts bound cs place) || b) (lengths_at place h all) ∙ sym (or_yes (not (counts bound cs place)))

  -- The last certificate needn't be that of a CA.
  authority_at : (place : ℕ) (can : Bool) → place < length cs → (is_last ds (from + place) || can) ≡ true → (is_last cs place || can) ≡ true
  authority_at place can lt h =
      let long = w.long in
      elim (or_cases (is_last ds (from + place)) can h) [
        | inl last ↦
            let end = eqb-true ((from + place) + 1) (length ds) last in
            ap (λ b. b || can) (eq-eqb (place + 1) (length cs) (omega arith))
        | inr able ↦ ap (λ b. is_last cs place || b) able ∙ sym (or_yes (is_last cs place))
      ]

module _ (t : Terms) (anchors : List PlainAnchor) (ds cs : List PlainCertificate) (from : ℕ) (w : Window ds cs from) where
  -- The signed bytes are those of the certificate itself.
  pub same_signed : (place : ℕ) (c : PlainCertificate) → slice_get cs place ≡ Some c → slice_get ds (from + place) ≡ Some c
      → signed_part t.bound cs (joined t.bound cs) place c ≡ signed_part t.bound ds (joined t.bound ds) (from + place) c
  same_signed place c e f = signed_part-is t.bound cs place c e ∙ sym (signed_part-is t.bound ds (from + place) c f)

  -- The rules that the certificate keeps in the longer list, apart from those on names and
  -- signatures, are kept here.
  kept_in : (place : ℕ) (c : PlainCertificate) → place < length cs → is_linked (among t anchors) cs place c ≡ true → is_signed (among t anchors) cs (joined t.bound cs) place c ≡ true
      → ((rule : Rule) → keeps rule t ds (joined t.bound ds) (from + place) c ≡ true) → (rule : Rule) → keeps rule (among t anchors) cs (joined t.bound cs) place c ≡ true
  kept_in place c lt linked signed kept rules.WrongIssuer = linked
  kept_in place c lt linked signed kept rules.NotAuthority = authority_at t.bound ds cs from w place (has_authority t.bound c) lt (kept rules.NotAuthority)
  kept_in place c lt linked signed kept rules.PathTooLong = within_at t.bound ds cs from w place lt (kept rules.PathTooLong)
  kept_in place c lt linked signed kept rules.WrongSignature = signed
  kept_in place c lt linked signed kept rule = kept rule

  module _ (p : ℕ) (c : PlainCertificate) (is : slice_get cs (suc p) ≡ Some c) (lt : suc p < length cs) where
    linked_later : is_linked t ds (suc (from + p)) c ≡ true → is_linked (among t anchors) cs (suc p) c ≡ true
    linked_later h = ap (λ o. option_map_or (λ b. same_name t.bound (issuer c) (subject b)) o false) (w.at p (omega (arith, lt))) ∙ h

    signed_later : is_signed t ds (joined t.bound ds) (suc (from + p)) c ≡ true → is_signed (among t anchors) cs (joined t.bound cs) (suc p) c ≡ true
    signed_later h =
        let next : from + suc p ≡ suc (from + p) = omega arith in
        let part : signed_part t.bound cs (joined t.bound cs) (suc p) c ≡ signed_part t.bound ds (joined t.bound ds) (suc (from + p)) c =
        same_signed (suc p) c is (sym (w.at (suc p) lt) ∙ is) ∙ ap (λ n. signed_part t.bound ds (joined t.bound ds) n c) next in
        ap (λ o. option_map_or (λ b. says_yes (among t anchors) cs (joined t.bound cs) (suc p) c (public_key b)) o false) (w.at p (omega (arith, lt)))
        ∙ ap (λ (s : List ℕ). option_map_or (λ b. t.answers (public_key b) (outer_algorithm c) s (signature_bits c)) (slice_get ds (from + p)) false) part
        ∙ h

  -- If each certificate of the longer list keeps every rule, and the first certificate here has an
  -- issuer, this is a trusted chain.
  pub trusted_window : (limit : ℕ) → AllByRecursion (Stands t.bound limit) cs → length (joined t.bound cs) < 2 ^ 64 → 0 < length cs
      → ((place : ℕ) (rule : Rule) → place < length ds → keeps_at rule t ds (joined t.bound ds) place ≡ true)
      → ((c : PlainCertificate) → slice_get cs 0 ≡ Some c → ((rule : Rule) → keeps rule t ds (joined t.bound ds) (from + 0) c ≡ true)
      → (is_linked (among t anchors) cs 0 c ≡ true) × (is_signed (among t anchors) cs (joined t.bound cs) 0 c ≡ true))
      → Trusted (among t anchors) limit (joined t.bound cs)
  trusted_window limit each fits some kept first = record {
    certificates = cs;
    some = some;
    chain = record { each = each; joins = refl; fits = fits };
    kept = λ place rule lt. elim ((slice_get_cases cs place).1) [
      | inl here ↦ ap (λ o. option_map_or (keeps rule (among t anchors) cs (joined t.bound cs) place) o true) here.2 ∙ at_place place here.0 here.2 lt rule
      | inr past ↦ let none = past.0 in absurd (omega (arith, lt))
    ];
  }
    where
      there : (place : ℕ) (c : PlainCertificate) → slice_get cs place ≡ Some c → place < length cs → (rule : Rule) → keeps rule t ds (joined t.bound ds) (from + place) c ≡ true
      there place c is lt rule =
          let long = w.long in
          sym (ap (λ o. option_map_or (keeps rule t ds (joined t.bound ds) (from + place)) o true) (sym (w.at place lt) ∙ is)) ∙ kept (from + place) rule (omega (arith, lt))

      at_place : (place : ℕ) (c : PlainCertificate) → slice_get cs place ≡ Some c → place < length cs → (rule : Rule) → keeps rule (among t anchors) cs (joined t.bound cs) place c ≡ true
      at_place zero c is lt rule =
          let f = first c is (there 0 c is lt) in
          kept_in 0 c lt f.0 f.1 (there 0 c is lt) rule
      at_place (suc p) c is lt rule =
          let next : from + suc p ≡ suc (from + p) = omega arith in
          let later : (r : Rule) → keeps r t ds (joined t.bound ds) (suc (from + p)) c ≡ true =
          λ r. subst (λ (n : ℕ). keeps r t ds (joined t.bound ds) n c ≡ true) next (there (suc p) c is lt r) in
          kept_in (suc p) c lt (linked_later p c is lt (later rules.WrongIssuer)) (signed_later p c is lt (later rules.WrongSignature)) (there (suc p) c is lt) rule
