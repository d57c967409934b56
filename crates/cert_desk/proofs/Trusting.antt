-- Lemmas about a chain that fulfils its orders: it is trusted exactly if the orders permit it
-- (`Permits`), and each rule that it breaks is one of `BreaksFor`. Also lemmas about the bytes that
-- a verifier gets, and about the meanings of the extensions.
use Rattle.std.proofs.Common.{◌≡◌, ℕ, zero, suc, ◌+◌, ◌<◌, List, [], ◌∷◌, length, Bool, true, false, not, ◌&&◌, ◌||◌, Option, Some, refl, sym, ap, inl, inr, ◌∙◌, subst, arith, ◌==◌, ◌-◌, ◌≤◌, cond, None, slice_get, ◌≢◌, nat_le, bytes_eq, if◌then◌else◌, map}
use Rattle.std.proofs.lemmas.Bool.{and_from, and_parts, cases_lt, le-leb, leb-true, both_ways, leb-false, or_left, or_right, and_cases}
use Rattle.std.proofs.lemmas.Bool.Decides.{Decides-eqb}
use Rattle.std.proofs.lemmas.Option.{same_Some, slice_get_within}
use Rattle.std.proofs.lemmas.Slice.Eq.{bytes_eq-Decides}
use Rattle.std.specs.List.{list_all, AllByRecursion, list_any}
use Rattle.std.specs.Option.{option_map_or}
use Rattle.cert_desk_listing.specs.Oid.Bound.{Bound}
use Rattle.cert_desk_listing.proofs.Der.HeadLaws.{fits_contents}
use Rattle.cert_desk_listing.specs.Der.BitStrings.{Bits}
use Rattle.cert_desk_listing.specs.Der.Heads.{Fits}
use Rattle.cert_desk_listing.specs.Der.Limits.{length_max}
use Rattle.cert_desk_listing.specs.Der.Shapes.{IsValid, IsContent, IsBody, octets_of}
use Rattle.cert_desk_listing.specs.CertCertificates.Certificates.{PlainCertificate, Tbs, extensions_of}
use Rattle.cert_desk_listing.specs.CertCertificates.Certificates.{inner_algorithm, issuer, not_after}
use Rattle.cert_desk_listing.specs.CertCertificates.Certificates.{not_before, outer_algorithm, public_key}
use Rattle.cert_desk_listing.specs.CertCertificates.Certificates.{raw_certificate, raw_tbs_certificate, subject}
use Rattle.cert_desk_listing.specs.CertCertificates.Certificates.{tbs, certificate_octets, signature_bits}
use Rattle.cert_desk_orders.specs.CertParts.Grammar.{Algorithm, algorithm_identifier, PublicKey, civil_of, is_critical}
use Rattle.cert_desk_listing.specs.CertNames.Names.{name_octets}
use Rattle.cert_desk_checking.specs.DeskBundle.Chains.{Chain, Stands}
use Rattle.cert_desk_checking.specs.CertGeneralNames.GeneralNames.{general_names}
use Rattle.cert_desk_checking.specs.DeskRules.Judging.{Answers, are_distinct, has_authority, in_order, keeps, keeps_at, signed_part}
use Rattle.cert_desk_orders.specs.Types.Seconds.{unix_seconds}
use Rattle.cert_desk_checking.specs.DeskRules.Paths.{used_up, counts, is_last, is_self_issued, is_within, is_within_lengths, keep_lengths, keeps_length, same_name}
use Rattle.cert_desk_checking.specs.DeskRules.Verdicts.{Trusted}
use Rattle.cert_desk_checking.specs.DeskRules.Weighing.{path_length, weigh, is_authority, is_malformed, is_unweighed, may_certify, serves}
use Rattle.cert_desk_checking.specs.DeskRules.declared.rule.Rule.{Rule}
use Rattle.cert_desk_checking.proofs.Encodings.{Stands-at, signed_part-is}
use Rattle.cert_desk_checking.proofs.DeskRules.Folds.{or_yes}
use Rattle.cert_desk_checking.proofs.DeskRules.RuleList.{broken_is}
use Rattle.cert_desk_checking.proofs.DeskBundle.OneChain.{one_chain}
use Rattle.cert_desk.specs.Allowances.{counted_orders, counts_order, path_in, subject_at, suffices_at, Suffices, allows, allows_one}
use Rattle.cert_desk.specs.Chains.{HoldFront, HoldsOrders, AreSigned}
use Rattle.cert_desk.specs.Laws.{terms_for, HeldIsTrusted, Permits, TrustedIsPermitted, BreaksFor, HeldIsRefusedFor, IsTooFar, SaysAsOrdered, SignedIsSliced, AcceptsSigners, AreAnswered, IssuedIsTrusted, told, told_for}
use Rattle.cert_desk.specs.Ordered.{dns_names, extensions_for, ordered_part, part_octets}
use Rattle.cert_desk.specs.PlainOrders.{IsRight, PlainOrder, begins, ends}
use Rattle.cert_desk.specs.Roles.{place_above, role_at}
use Rattle.cert_desk.specs.declared.role.Role.{Role}
use Rattle.cert_desk.proofs.Told.{FitsFor, lengths, all_weighed, allows_in, authority, distinct, serves_as, well_formed, told_is}
use Rattle.cert_desk_listing.specs.Der.TagTypes.Tag.TheVariants as tags
use Rattle.cert_desk.specs.declared.role.Role.TheVariants as roles
use Rattle.cert_desk_checking.specs.DeskRules.declared.rule.Rule.TheVariants as rules

-- Bytes equal themselves.
same_octets : (w : List ℕ) → bytes_eq w w ≡ true
same_octets w = (bytes_eq-Decides w w).1 refl

-- A subscriber's names have an encoding if the TBSCertificate has one.
subscriber_fits : (p above : PlainOrder) (a : Algorithm) → IsValid (raw_tbs_certificate Bound) (ordered_part roles.Subscriber p above a) → Fits (octets_of (general_names Bound) (dns_names p.dns))
unfolding IsValid IsContent IsBody octets_of
subscriber_fits p above a v = fits_contents tags.OctetString (octets_of (general_names Bound) (dns_names p.dns)) v.0.1.1.1.1.1.1.1.1.1.0.0.0.0.0.1.1.0.2

-- The DNS names of any role have an encoding if the TBSCertificate has one.
names_fit : (role : Role) (p above : PlainOrder) (a : Algorithm) → IsValid (raw_tbs_certificate Bound) (ordered_part role p above a) → FitsFor role p
names_fit roles.Root p above a v = tt
names_fit roles.Subordinate p above a v = tt
names_fit roles.Subscriber p above a v = subscriber_fits p above a v

-- The TBSCertificate of a valid certificate is valid.
part_valid : (c : PlainCertificate) → IsValid (raw_certificate Bound) c → IsValid (raw_tbs_certificate Bound) (tbs c)
unfolding IsValid IsContent IsBody
part_valid c v = v.0.0

-- The certificate at an index, its order, and the order of its issuer.
pub record IsHeldAt (ps : List PlainOrder) (cs : List PlainCertificate) (place : ℕ) : Type 0 where
  pub order : PlainOrder
  pub above : PlainOrder
  pub certificate : PlainCertificate
  pub order_is : slice_get ps place ≡ Some order
  pub right : IsRight (role_at (length ps) place) order
  pub above_is : slice_get ps (place_above place) ≡ Some above
  pub certificate_is : slice_get cs place ≡ Some certificate
  pub part : tbs certificate ≡ ordered_part (role_at (length ps) place) order above (outer_algorithm certificate)

-- A list has an element at each index below its length.
there : {A : Type 0} (xs : List A) (place : ℕ) → place < length xs → (x : A) × (slice_get xs place ≡ Some x)
there [] place lt = absurd (omega (arith, lt))
there (x ∷ xs) zero lt = (x, refl)
there (x ∷ xs) (suc place) lt = there xs place (omega (arith, lt))

-- Each index of a chain has its certificate and its order.
pub held_at : (ps : List PlainOrder) (cs : List PlainCertificate) → HoldFront ps cs → (place : ℕ) → place < length cs → IsHeldAt ps cs place
held_at ps cs held place lt =
    let c = there cs place lt in
    let h = held place c.0 c.1 in
    record { order = h.order; above = h.above; certificate = c.0; order_is = h.order_is; right = h.right; above_is = h.above_is; certificate_is = c.1; part = h.part }

-- The fields of a certificate that fulfils an order. The paths `t.1.1.0` and so on are the fields
-- of a TBSCertificate (RFC 5280 4.1), which is a nested pair.
module _ (ps : List PlainOrder) (cs : List PlainCertificate) (place : ℕ) (h : IsHeldAt ps cs place) where
  fits : IsValid (raw_certificate Bound) h.certificate → FitsFor (role_at (length ps) place) h.order
  fits v =
      names_fit (role_at (length ps) place) h.order h.above (outer_algorithm h.certificate)
      (subst (λ (t : Tbs). IsValid (raw_tbs_certificate Bound) t) h.part (part_valid h.certificate v))

  extensions_are : extensions_of h.certificate ≡ extensions_for (role_at (length ps) place) h.order h.above.key
  extensions_are = ap (λ (t : Tbs). option_map_or (λ es. es) t.1.1.1.1.1.1.1.1.1.0 []) h.part

  algorithm_is : inner_algorithm h.certificate ≡ outer_algorithm h.certificate
  algorithm_is = ap (λ (t : Tbs). t.1.1.0) h.part

  issuer_is : issuer h.certificate ≡ h.above.subject
  issuer_is = ap (λ (t : Tbs). t.1.1.1.0) h.part

  pub subject_is : subject h.certificate ≡ h.order.subject
  subject_is = ap (λ (t : Tbs). t.1.1.1.1.1.0) h.part

  pub key_is : public_key h.certificate ≡ h.order.key
  key_is = ap (λ (t : Tbs). t.1.1.1.1.1.1.0) h.part

  before_is : not_before h.certificate ≡ begins h.order
  before_is = ap (λ (t : Tbs). civil_of t.1.1.1.1.0.0) h.part

  after_is : not_after h.certificate ≡ ends h.order
  after_is = ap (λ (t : Tbs). civil_of t.1.1.1.1.0.1.0) h.part

-- If a test chooses the subscriber's role, the test is true.
subscriber_by : (b : Bool) → (if b then roles.Subscriber else roles.Subordinate) ≡ roles.Subscriber → b ≡ true
subscriber_by true e = refl
subscriber_by false e = absurd cc

-- A test for the last index, with its sides exchanged.
flipped : (n place : ℕ) → (n == suc (suc place)) ≡ true → ((suc place + 1) == n) ≡ true
flipped n place e =
    let is : n ≡ suc (suc place) = (Decides-eqb n (suc (suc place))).0 e in
    (Decides-eqb (suc place + 1) n).1 (omega (arith, is))

-- The certificate of a subscriber is the last one.
subscriber_last : (n place : ℕ) → role_at n place ≡ roles.Subscriber → ((place + 1) == n) ≡ true
subscriber_last n zero e = absurd cc
subscriber_last n (suc place) e = flipped n place (subscriber_by (n == suc (suc place)) e)

-- A number is within a path length if a larger one is.
more_within : (n m : ℕ) (most : Option ℕ) → n ≤ m → is_within m most ≡ true → is_within n most ≡ true
more_within n m None le e = refl
more_within n m (Some most) le e =
    let most_is : m ≤ most = leb-true m most e in
    le-leb n most (omega (arith, le, most_is))

module _ (ps : List PlainOrder) (cs : List PlainCertificate) (count : length cs ≡ length ps) (held : (place : ℕ) → place < length cs → IsHeldAt ps cs place) where
  -- The subject of the order at an index.
  subject_there : (place : ℕ) (h : IsHeldAt ps cs place) → subject_at ps place ≡ h.order.subject
  subject_there place h = ap (λ o. option_map_or (λ (p : PlainOrder). p.subject) o []) h.order_is

  -- The subject of the order of the issuer.
  subject_above : (place : ℕ) (h : IsHeldAt ps cs place) → subject_at ps (place_above place) ≡ h.above.subject
  subject_above place h = ap (λ o. option_map_or (λ (p : PlainOrder). p.subject) o []) h.above_is

  -- A certificate counts for path lengths exactly if its order does.
  counts_as : (place : ℕ) → place < length cs → counts Bound cs place ≡ counts_order ps place
  counts_as place lt =
      let h = held place lt in
      ap (λ o. not (is_last cs place) && option_map_or (λ c. not (is_self_issued Bound c)) o false) h.certificate_is
      ∙ ap (λ n. not ((place + 1) == n) && not (is_self_issued Bound h.certificate)) count
      ∙ ap (λ n. not ((place + 1) == length ps) && not (same_name Bound n (subject h.certificate))) (issuer_is ps cs place h ∙ sym (subject_above place h))
      ∙ ap (λ n. not ((place + 1) == length ps) && not (same_name Bound (subject_at ps (place_above place)) n)) (subject_is ps cs place h ∙ sym (subject_there place h))

  -- So the certificates from an index on count as often as their orders.
  used_up_as : (from n : ℕ) → from + n ≤ length cs → used_up Bound cs from n ≡ counted_orders ps from n
  used_up_as from zero le = refl
  used_up_as from (suc n) le =
      let here = counts_as (from + n) (omega (arith, le)) in
      ap (λ m. m + cond (counts Bound cs (from + n)) 1 0) (used_up_as from n (omega (arith, le)))
      ∙ ap (λ b. counted_orders ps from n + cond b 1 0) here

  -- The number of certificates after an index that count is within its path length exactly if the
  -- order's path length allows it.
  length_as : (place other : ℕ) → place < other → other < length cs → (h : IsHeldAt ps cs place) → FitsFor (role_at (length ps) place) h.order
      → keeps_length Bound cs place other ≡ is_within (counted_orders ps (place + 1) (other - place)) (path_in (role_at (length ps) place) h.order)
  length_as place other lt within h fits =
      let n = used_up Bound cs (place + 1) (other - place) in
      ap (λ es. list_all (λ e. is_within n (path_length (weigh Bound e))) es) (ap (λ o. option_map_or extensions_of o []) h.certificate_is ∙ extensions_are ps cs place h)
      ∙ lengths (role_at (length ps) place) h.order h.above.key h.right fits n
      ∙ ap (λ m. is_within m (path_in (role_at (length ps) place) h.order)) (used_up_as (place + 1) (other - place) (omega (arith, lt, within)))

  -- More orders count at least as often.
  counted_more : (from n m : ℕ) → counted_orders ps from n ≤ counted_orders ps from (n + m)
  counted_more from n zero = let same : n + 0 ≡ n = omega arith in subst (λ k. counted_orders ps from n ≤ counted_orders ps from k) (sym same) (omega arith)
  counted_more from n (suc m) =
      let next : n + suc m ≡ suc (n + m) = omega arith in
      let before = counted_more from n m in
      subst (λ k. counted_orders ps from n ≤ counted_orders ps from k) (sym next) (omega (arith, before))

  -- Lemmas about path lengths, for a chain in which the names of a subscriber have an encoding.
  module _ (fits : (place : ℕ) → (lt : place < length cs) → FitsFor (role_at (length ps) place) (held place lt).order) where
    -- If the path lengths of the orders suffice, the first certificates keep theirs.
    kept_before : Suffices ps → (place : ℕ) → place < length cs → (n : ℕ) → n ≤ place → keep_lengths Bound cs n place ≡ true
    kept_before enough place lt zero le = refl
    kept_before enough place lt (suc n) le =
        let here : n < length cs = omega (arith, lt, le) in
        let h = held n here in
        let total = length ps - (n + 1) in
        let few = counted_more (n + 1) (place - n) (total - (place - n)) in
        let all : (place - n) + (total - (place - n)) ≡ total = omega (arith, lt, le, count) in
        let less : counted_orders ps (n + 1) (place - n) ≤ counted_orders ps (n + 1) total = subst (λ k. counted_orders ps (n + 1) (place - n) ≤ counted_orders ps (n + 1) k) all few in
        and_from (keep_lengths Bound cs n place) (keeps_length Bound cs n place) (kept_before enough place lt n (omega (arith, le)))
        (length_as n place (omega (arith, le)) lt h (fits n here)
        ∙ more_within (counted_orders ps (n + 1) (place - n)) (counted_orders ps (n + 1) total) (path_in (role_at (length ps) n) h.order) less (enough n h.order h.order_is))

    -- If the path lengths are large enough, each index is within those before it.
    within_if : Suffices ps → (place : ℕ) → place < length cs → is_within_lengths Bound cs place ≡ true
    within_if enough place lt =
        ap (λ b. not (counts Bound cs place) || b) (kept_before enough place lt place (omega arith)) ∙ sym (or_yes (not (counts Bound cs place)))

    -- If the first certificates keep their path lengths, so does each of them.
    kept_there : (n place other : ℕ) → place < n → keep_lengths Bound cs n other ≡ true → keeps_length Bound cs place other ≡ true
    kept_there zero place other lt e = absurd (omega (arith, lt))
    kept_there (suc n) place other lt e =
        let both = and_parts (keep_lengths Bound cs n other) (keeps_length Bound cs n other) e in
        elim (cases_lt place n) [
          | inl low ↦ kept_there n place other low both.0
          | inr high ↦ let same : n ≡ place = omega (arith, lt, high) in subst (λ k. keeps_length Bound cs k other ≡ true) same both.1
        ]

    kept_where : (b kept : Bool) → (not b || kept) ≡ true → b ≡ true → kept ≡ true
    kept_where true kept e c = e
    kept_where false kept e c = absurd cc

    -- The number 0 is within each path length.
    none_within : (most : Option ℕ) → is_within 0 most ≡ true
    none_within None = refl
    none_within (Some most) = le-leb 0 most (omega arith)

    next_within : (place other m : ℕ) → (place + 1) + m ≡ other → place < other → (lt : other < length cs) → (here : place < length cs) → is_within_lengths Bound cs other ≡ true
        → is_within (counted_orders ps (place + 1) m) (path_in (role_at (length ps) place) (held place here).order) ≡ true
        → (b : Bool) → counts_order ps other ≡ b → is_within (counted_orders ps (place + 1) m + cond b 1 0) (path_in (role_at (length ps) place) (held place here).order) ≡ true
    next_within place other m is above lt here within before false e =
        let same : counted_orders ps (place + 1) m + 0 ≡ counted_orders ps (place + 1) m = omega arith in
        ap (λ n. is_within n (path_in (role_at (length ps) place) (held place here).order)) same ∙ before
    next_within place other m is above lt here within before true e =
        let kept = kept_where (counts Bound cs other) (keep_lengths Bound cs other other) within (counts_as other lt ∙ e) in
        let there = kept_there other place other above kept in
        let so_many : other - place ≡ suc m = omega (arith, is) in
        ap (λ k. is_within (counted_orders ps (place + 1) m + cond k 1 0) (path_in (role_at (length ps) place) (held place here).order)) (sym e)
        ∙ ap (λ k. is_within (counted_orders ps (place + 1) m + cond (counts_order ps k) 1 0) (path_in (role_at (length ps) place) (held place here).order)) (sym is)
        ∙ ap (λ k. is_within (counted_orders ps (place + 1) k) (path_in (role_at (length ps) place) (held place here).order)) (sym so_many)
        ∙ sym (length_as place other above lt (held place here) (fits place here))
        ∙ there

    suffices_up_to : ((place : ℕ) → place < length cs → is_within_lengths Bound cs place ≡ true) → (place : ℕ) → (here : place < length cs) → (m : ℕ) → (place + 1) + m ≤ length cs
        → is_within (counted_orders ps (place + 1) m) (path_in (role_at (length ps) place) (held place here).order) ≡ true
    suffices_up_to within place here zero le = none_within (path_in (role_at (length ps) place) (held place here).order)
    suffices_up_to within place here (suc m) le =
        let other = (place + 1) + m in
        let lt : other < length cs = omega (arith, le) in
        next_within place other m refl (omega arith) lt here (within other lt) (suffices_up_to within place here m (omega (arith, le))) (counts_order ps other) refl

    -- If each index is within the path lengths before it, they are large enough.
    suffices_if : ((place : ℕ) → place < length cs → is_within_lengths Bound cs place ≡ true) → (place : ℕ) → place < length cs → (p : PlainOrder) → slice_get ps place ≡ Some p
        → suffices_at ps place p ≡ true
    suffices_if within place lt p e =
        let h = held place lt in
        let same : h.order ≡ p = same_Some h.order p (sym h.order_is ∙ e) in
        subst (λ (q : PlainOrder). suffices_at ps place q ≡ true) same (suffices_up_to within place lt (length ps - (place + 1)) (omega (arith, lt, count)))

-- A conjunction with a true part is its other part.
yes_and : (b c : Bool) → b ≡ true → ((b && c) || false) ≡ c
yes_and true true e = refl
yes_and true false e = refl
yes_and false c e = absurd cc

-- The verifier's answer for the certificate at an index, under the key of the order above.
abbrev pub answer_at : Answers → (ps : List PlainOrder) (cs : List PlainCertificate) (place : ℕ) → IsHeldAt ps cs place → Bool
answer_at answers ps cs place h = answers h.above.key (outer_algorithm h.certificate) (part_octets (tbs h.certificate)) (signature_bits h.certificate)

-- Certificates are within a size limit if their encodings are.
within_limit : (m limit : ℕ) (cs : List PlainCertificate) → AllByRecursion (Stands Bound m) cs
    → ((place : ℕ) (c : PlainCertificate) → slice_get cs place ≡ Some c → length (certificate_octets Bound c) ≤ limit) → AllByRecursion (Stands Bound limit) cs
within_limit m limit [] all within = tt
within_limit m limit (c ∷ cs) all within = (record { valid = all.0.valid; within = within 0 c refl }, within_limit m limit cs all.1 (λ place d e. within (suc place) d e))

-- Certificates within a size limit are within each larger one.
wider : (m limit : ℕ) (cs : List PlainCertificate) → m ≤ limit → AllByRecursion (Stands Bound m) cs → AllByRecursion (Stands Bound limit) cs
wider m limit [] le all = tt
wider m limit (c ∷ cs) le all = (record { valid = all.0.valid; within = omega (arith, le, all.0.within) }, wider m limit cs le all.1)

pub wider_chain : (m limit : ℕ) (cs : List PlainCertificate) (stream : List ℕ) → m ≤ limit → Chain Bound m cs stream → Chain Bound limit cs stream
wider_chain m limit cs stream le chain = record { each = wider m limit cs le chain.each; joins = chain.joins; fits = chain.fits }

-- If all elements of a list pass a test, so does the one at an index.
all_get : {A : Type 0} (test : A → Bool) (xs : List A) (place : ℕ) (x : A) → list_all test xs ≡ true → slice_get xs place ≡ Some x → test x ≡ true
all_get test [] place x h e = absurd cc
all_get test (y ∷ ys) zero x h e = let same : y ≡ x = same_Some y x e in subst (λ z. test z ≡ true) same (and_parts (test y) (list_all test ys) h).0
all_get test (y ∷ ys) (suc place) x h e = all_get test ys place x (and_parts (test y) (list_all test ys) h).1 e

-- If the element at each index passes a test, all elements do.
all_from_get : {A : Type 0} (test : A → Bool) (xs : List A) → ((place : ℕ) (x : A) → slice_get xs place ≡ Some x → test x ≡ true) → list_all test xs ≡ true
all_from_get test [] h = refl
all_from_get test (y ∷ ys) h = and_from (test y) (list_all test ys) (h 0 y refl) (all_from_get test ys (λ place x e. h (suc place) x e))

-- Below the root, whether an order allows a key purpose doesn't depend on its role.
below_allows_by : (b : Bool) (purpose : List ℕ) (p : PlainOrder) → allows_in (if b then roles.Subscriber else roles.Subordinate) purpose p ≡ allows_one purpose p
below_allows_by true purpose p = refl
below_allows_by false purpose p = refl

pub below_allows : (n place : ℕ) (purpose : List ℕ) (p : PlainOrder) → allows_in (role_at n (suc place)) purpose p ≡ allows_one purpose p
below_allows n place purpose p = below_allows_by (n == suc (suc place)) purpose p

allowed_at : (root : PlainOrder) (below : List PlainOrder) (purpose : List ℕ) → allows purpose (root ∷ below) ≡ true → (place : ℕ) (p : PlainOrder) → slice_get (root ∷ below) place ≡ Some p
    → allows_in (role_at (length (root ∷ below)) place) purpose p ≡ true
allowed_at root below purpose all zero p e = refl
allowed_at root below purpose all (suc place) p e =
    below_allows (length (root ∷ below)) place purpose p ∙ all_get (allows_one purpose) below place p all e

-- If a certificate exceeds the path lengths before it, it counts, and some path length isn't kept.
neither : (counts kept : Bool) → (not counts || kept) ≡ false → (counts ≡ true) × (kept ≡ false)
neither true false e = (refl, refl)
neither true true e = absurd cc
neither false kept e = absurd cc

-- If some of the first certificates don't keep their path lengths, there is one that doesn't.
broken_length : (cs : List PlainCertificate) (n other : ℕ) → keep_lengths Bound cs n other ≡ false → (place : ℕ) × (place < n) × (keeps_length Bound cs place other ≡ false)
broken_length cs zero other e = absurd cc
broken_length cs (suc n) other e =
    elim (and_cases (keep_lengths Bound cs n other) (keeps_length Bound cs n other) e) [
      | inl before ↦ let found = broken_length cs n other before in let lt = found.1 in (found.0, omega (arith, lt), found.2)
      | inr here ↦ (n, omega arith, here)
    ]

module _ (root : PlainOrder) (below : List PlainOrder) (cs : List PlainCertificate) (stream : List ℕ) (h : HoldsOrders (root ∷ below) cs stream) where
  pub here : (place : ℕ) → place < length cs → IsHeldAt (root ∷ below) cs place
  here place lt = held_at (root ∷ below) cs h.held place lt

  pub valid_at : (place : ℕ) → (lt : place < length cs) → IsValid (raw_certificate Bound) (here place lt).certificate
  valid_at place lt = (Stands-at Bound length_max cs place (here place lt).certificate h.chain.each (here place lt).certificate_is).valid

  pub fits_at : (place : ℕ) → (lt : place < length cs) → FitsFor (role_at (length (root ∷ below)) place) (here place lt).order
  fits_at place lt = fits (root ∷ below) cs place (here place lt) (valid_at place lt)

  module _ (moment : ℕ) (purpose : List ℕ) (answers : Answers) where
    at_place : (rule : Rule) (place : ℕ) → (lt : place < length cs)
        → keeps_at rule (terms_for root moment purpose answers) cs stream place ≡ keeps rule (terms_for root moment purpose answers) cs stream place (here place lt).certificate
    at_place rule place lt = ap (λ o. option_map_or (keeps rule (terms_for root moment purpose answers) cs stream place) o true) (here place lt).certificate_is

    pub one_algorithm : (place : ℕ) → (lt : place < length cs) → keeps_at rules.AlgorithmsDiffer (terms_for root moment purpose answers) cs stream place ≡ true
    one_algorithm place lt =
        let that = here place lt in
        at_place rules.AlgorithmsDiffer place lt
        ∙ ap (λ a. bytes_eq (octets_of (algorithm_identifier Bound) a) (octets_of (algorithm_identifier Bound) (outer_algorithm that.certificate))) (algorithm_is (root ∷ below) cs place that)
        ∙ same_octets (octets_of (algorithm_identifier Bound) (outer_algorithm that.certificate))

    pub no_duplicate : (place : ℕ) → (lt : place < length cs) → keeps_at rules.DuplicateExtension (terms_for root moment purpose answers) cs stream place ≡ true
    no_duplicate place lt =
        let that = here place lt in
        at_place rules.DuplicateExtension place lt ∙ ap are_distinct (extensions_are (root ∷ below) cs place that)
        ∙ distinct (role_at (length (root ∷ below)) place) that.order that.above.key that.right (fits_at place lt)

    pub none_malformed : (place : ℕ) → (lt : place < length cs) → keeps_at rules.MalformedExtension (terms_for root moment purpose answers) cs stream place ≡ true
    none_malformed place lt =
        let that = here place lt in
        at_place rules.MalformedExtension place lt ∙ ap (λ es. not (list_any (λ e. is_malformed (weigh Bound e)) es)) (extensions_are (root ∷ below) cs place that)
        ∙ ap not (well_formed (role_at (length (root ∷ below)) place) that.order that.above.key that.right (fits_at place lt))

    pub all_known : (place : ℕ) → (lt : place < length cs) → keeps_at rules.UnweighedCritical (terms_for root moment purpose answers) cs stream place ≡ true
    all_known place lt =
        let that = here place lt in
        at_place rules.UnweighedCritical place lt ∙ ap (λ es. not (list_any (λ e. is_critical e && is_unweighed (weigh Bound e)) es)) (extensions_are (root ∷ below) cs place that)
        ∙ ap not (all_weighed (role_at (length (root ∷ below)) place) that.order that.above.key that.right (fits_at place lt))

    above_first : (lt : 0 < length cs) → (here 0 lt).above ≡ root
    above_first lt = same_Some (here 0 lt).above root (sym (here 0 lt).above_is)

    above_later : (before : ℕ) → (lt : suc before < length cs) → (earlier : before < length cs) → (here (suc before) lt).above ≡ (here before earlier).order
    above_later before lt earlier = same_Some (here (suc before) lt).above (here before earlier).order (sym (here (suc before) lt).above_is ∙ (here before earlier).order_is)

    named_by_root : (lt : 0 < length cs) → same_name Bound (issuer (here 0 lt).certificate) root.subject ≡ true
    named_by_root lt =
        ap (λ n. same_name Bound n root.subject) (issuer_is (root ∷ below) cs 0 (here 0 lt) ∙ ap (λ (p : PlainOrder). p.subject) (above_first lt))
        ∙ same_octets (name_octets Bound root.subject)

    pub linked : (place : ℕ) → (lt : place < length cs) → keeps_at rules.WrongIssuer (terms_for root moment purpose answers) cs stream place ≡ true
    linked zero lt = at_place rules.WrongIssuer 0 lt ∙ ap (λ b. b || false) (named_by_root lt)
    linked (suc before) lt =
        let earlier : before < length cs = omega (arith, lt) in
        let that = here (suc before) lt in
        let there = here before earlier in
        at_place rules.WrongIssuer (suc before) lt
        ∙ ap (λ o. option_map_or (λ b. same_name Bound (issuer that.certificate) (subject b)) o false) there.certificate_is
        ∙ ap (λ n. same_name Bound n (subject there.certificate)) (issuer_is (root ∷ below) cs (suc before) that ∙ ap (λ (p : PlainOrder). p.subject) (above_later before lt earlier) ∙ sym (subject_is (root ∷ below) cs before there))
        ∙ same_octets (name_octets Bound (subject there.certificate))

    authority_there : (place : ℕ) → (lt : place < length cs) → role_at (length (root ∷ below)) place ≢ roles.Subscriber → has_authority Bound (here place lt).certificate ≡ true
    authority_there place lt other =
        let that = here place lt in
        ap (λ es. list_any (λ e. is_authority (weigh Bound e)) es && list_all (λ e. may_certify (weigh Bound e)) es) (extensions_are (root ∷ below) cs place that)
        ∙ authority (role_at (length (root ∷ below)) place) that.order that.above.key that.right (fits_at place lt) other

    authority_in : (role : Role) (place : ℕ) → (lt : place < length cs) → role_at (length (root ∷ below)) place ≡ role
        → (is_last cs place || has_authority Bound (here place lt).certificate) ≡ true
    authority_in roles.Subscriber place lt e =
        or_left (is_last cs place) (has_authority Bound (here place lt).certificate) (ap (λ n. (place + 1) == n) h.count ∙ subscriber_last (length (root ∷ below)) place e)
    authority_in _ place lt e = or_right (is_last cs place) (has_authority Bound (here place lt).certificate) (authority_there place lt (λ f. (let clash = sym e ∙ f in absurd cc)))

    pub authorities : (place : ℕ) → (lt : place < length cs) → keeps_at rules.NotAuthority (terms_for root moment purpose answers) cs stream place ≡ true
    authorities place lt = at_place rules.NotAuthority place lt ∙ authority_in (role_at (length (root ∷ below)) place) place lt refl

    pub begun : (place : ℕ) → (lt : place < length cs) → keeps_at rules.NotYetValid (terms_for root moment purpose answers) cs stream place ≡ nat_le (unix_seconds (begins (here place lt).order)) moment
    begun place lt = at_place rules.NotYetValid place lt ∙ ap (λ d. nat_le (unix_seconds d) moment) (before_is (root ∷ below) cs place (here place lt))

    pub lasting : (place : ℕ) → (lt : place < length cs) → keeps_at rules.Expired (terms_for root moment purpose answers) cs stream place ≡ nat_le moment (unix_seconds (ends (here place lt).order))
    lasting place lt = at_place rules.Expired place lt ∙ ap (λ d. nat_le moment (unix_seconds d)) (after_is (root ∷ below) cs place (here place lt))

    pub serving_at : (place : ℕ) → (lt : place < length cs)
        → keeps_at rules.AgainstPurpose (terms_for root moment purpose answers) cs stream place ≡ allows_in (role_at (length (root ∷ below)) place) purpose (here place lt).order
    serving_at place lt =
        let that = here place lt in
        at_place rules.AgainstPurpose place lt ∙ ap (λ es. list_all (λ e. serves purpose (weigh Bound e)) es) (extensions_are (root ∷ below) cs place that)
        ∙ serves_as (role_at (length (root ∷ below)) place) that.order that.above.key that.right (fits_at place lt) purpose

    pub in_length : (place : ℕ) → (lt : place < length cs) → keeps_at rules.PathTooLong (terms_for root moment purpose answers) cs stream place ≡ is_within_lengths Bound cs place
    in_length place lt = at_place rules.PathTooLong place lt

    slice_is : (place : ℕ) → (lt : place < length cs) → signed_part Bound cs stream place (here place lt).certificate ≡ part_octets (tbs (here place lt).certificate)
    slice_is place lt =
        ap (λ s. signed_part Bound cs s place (here place lt).certificate) h.chain.joins
        ∙ signed_part-is Bound cs place (here place lt).certificate (here place lt).certificate_is

    pub signed_at : (place : ℕ) → (lt : place < length cs)
        → keeps_at rules.WrongSignature (terms_for root moment purpose answers) cs stream place ≡ answer_at answers (root ∷ below) cs place (here place lt)
    signed_at zero lt =
        let that = here 0 lt in
        at_place rules.WrongSignature 0 lt
        ∙ yes_and (same_name Bound (issuer that.certificate) root.subject) (answers root.key (outer_algorithm that.certificate) (signed_part Bound cs stream 0 that.certificate) (signature_bits that.certificate)) (named_by_root lt)
        ∙ ap (λ w. answers root.key (outer_algorithm that.certificate) w (signature_bits that.certificate)) (slice_is 0 lt)
        ∙ ap (λ (p : PlainOrder). answers p.key (outer_algorithm that.certificate) (part_octets (tbs that.certificate)) (signature_bits that.certificate)) (sym (above_first lt))
    signed_at (suc before) lt =
        let earlier : before < length cs = omega (arith, lt) in
        let that = here (suc before) lt in
        let there = here before earlier in
        at_place rules.WrongSignature (suc before) lt
        ∙ ap (λ o. option_map_or (λ b. answers (public_key b) (outer_algorithm that.certificate) (signed_part Bound cs stream (suc before) that.certificate) (signature_bits that.certificate)) o false) there.certificate_is
        ∙ ap (λ w. answers (public_key there.certificate) (outer_algorithm that.certificate) w (signature_bits that.certificate)) (slice_is (suc before) lt)
        ∙ ap (λ k. answers k (outer_algorithm that.certificate) (part_octets (tbs that.certificate)) (signature_bits that.certificate))
        (key_is (root ∷ below) cs before there ∙ ap (λ (p : PlainOrder). p.key) (sym (above_later before lt earlier)))

    against_purpose : (place : ℕ) (p : PlainOrder) → allows_in (role_at (length (root ∷ below)) place) purpose p ≡ false → (0 < place) × (allows_one purpose p ≡ false)
    against_purpose zero p e = absurd cc
    against_purpose (suc place) p e = (omega arith, sym (below_allows (length (root ∷ below)) place purpose p) ∙ e)

    too_far : (place : ℕ) → place < length cs → is_within_lengths Bound cs place ≡ false → IsTooFar (root ∷ below) place
    too_far place lt e =
        let both = neither (counts Bound cs place) (keep_lengths Bound cs place place) e in
        let found = broken_length cs place place both.1 in
        let before = found.0 in
        let earlier = found.1 in
        let within : before < length cs = omega (arith, lt, earlier) in
        let there = here before within in
        record {
          counts = sym (counts_as (root ∷ below) cs h.count here place lt) ∙ both.0;
          before = before;
          earlier = earlier;
          order = there.order;
          order_is = there.order_is;
          exceeded = sym (length_as (root ∷ below) cs h.count here before place earlier lt there (fits_at before within)) ∙ found.2;
        }

    -- The rules that a chain can break, and why (`BreaksFor`).
    breaks : (rule : Rule) (place : ℕ) → place < length cs → keeps_at rule (terms_for root moment purpose answers) cs stream place ≡ false → BreaksFor moment purpose answers (root ∷ below) cs place rule
    breaks rules.AlgorithmsDiffer place lt e = both_ways _ e (one_algorithm place lt)
    breaks rules.DuplicateExtension place lt e = both_ways _ e (no_duplicate place lt)
    breaks rules.MalformedExtension place lt e = both_ways _ e (none_malformed place lt)
    breaks rules.UnweighedCritical place lt e = both_ways _ e (all_known place lt)
    breaks rules.WrongIssuer place lt e = both_ways _ e (linked place lt)
    breaks rules.NotYetValid place lt e =
        let that = here place lt in
        (that.order, that.order_is, leb-false (unix_seconds (begins that.order)) moment (sym (begun place lt) ∙ e))
    breaks rules.Expired place lt e =
        let that = here place lt in
        (that.order, that.order_is, leb-false moment (unix_seconds (ends that.order)) (sym (lasting place lt) ∙ e))
    breaks rules.AgainstPurpose place lt e =
        let that = here place lt in
        let against = against_purpose place that.order (sym (serving_at place lt) ∙ e) in
        (that.order, that.order_is, against.0, against.1)
    breaks rules.NotAuthority place lt e = both_ways _ e (authorities place lt)
    breaks rules.PathTooLong place lt e = too_far place lt (sym (in_length place lt) ∙ e)
    breaks rules.WrongSignature place lt e =
        let that = here place lt in
        (that.above, that.certificate, that.above_is, that.certificate_is, sym (signed_at place lt) ∙ e)

    module _ (limit : ℕ) where
      keeps_each : Permits limit moment purpose answers (root ∷ below) cs → (rule : Rule) (place : ℕ) → (lt : place < length cs) → keeps_at rule (terms_for root moment purpose answers) cs stream place ≡ true
      keeps_each p rules.AlgorithmsDiffer place lt = one_algorithm place lt
      keeps_each p rules.DuplicateExtension place lt = no_duplicate place lt
      keeps_each p rules.MalformedExtension place lt = none_malformed place lt
      keeps_each p rules.UnweighedCritical place lt = all_known place lt
      keeps_each p rules.WrongIssuer place lt = linked place lt
      keeps_each p rules.NotYetValid place lt =
          let that = here place lt in
          begun place lt ∙ le-leb (unix_seconds (begins that.order)) moment (p.lasting place that.order that.order_is).0
      keeps_each p rules.Expired place lt =
          let that = here place lt in
          lasting place lt ∙ le-leb moment (unix_seconds (ends that.order)) (p.lasting place that.order that.order_is).1
      keeps_each p rules.AgainstPurpose place lt =
          let that = here place lt in
          serving_at place lt ∙ allowed_at root below purpose p.allowed place that.order that.order_is
      keeps_each p rules.NotAuthority place lt = authorities place lt
      keeps_each p rules.PathTooLong place lt =
          in_length place lt
          ∙ within_if (root ∷ below) cs h.count here fits_at p.sufficient place lt
      keeps_each p rules.WrongSignature place lt =
          let that = here place lt in
          signed_at place lt ∙ p.answered place that.above that.certificate that.above_is that.certificate_is

      pub is_trusted : Permits limit moment purpose answers (root ∷ below) cs → Trusted (terms_for root moment purpose answers) limit stream
      is_trusted p = record {
        certificates = cs;
        some = omega (arith, h.count);
        chain = record { each = within_limit length_max limit cs h.chain.each p.within; joins = h.chain.joins; fits = h.chain.fits };
        kept = λ place rule lt. keeps_each p rule place lt;
      }

      -- The certificates of an input that is trusted are those of the chain.
      same_chain : (t : Trusted (terms_for root moment purpose answers) limit stream) → t.certificates ≡ cs
      same_chain t =
          one_chain Bound (limit + length_max) t.certificates cs stream (wider_chain limit (limit + length_max) t.certificates stream (omega arith) t.chain)
          (wider_chain length_max (limit + length_max) cs stream (omega arith) h.chain)

      kept_in : Trusted (terms_for root moment purpose answers) limit stream → (rule : Rule) (place : ℕ) → place < length cs → keeps_at rule (terms_for root moment purpose answers) cs stream place ≡ true
      kept_in t rule place lt =
          subst (λ ds. keeps_at rule (terms_for root moment purpose answers) ds stream place ≡ true) (same_chain t)
          (t.kept place rule (subst (λ ds. place < length ds) (sym (same_chain t)) lt))

      within : (place : ℕ) (p : PlainOrder) → slice_get (root ∷ below) place ≡ Some p → place < length cs
      within place p e = let lt = slice_get_within (root ∷ below) place p e in omega (arith, lt, h.count)

      pub is_permitted : Trusted (terms_for root moment purpose answers) limit stream → Permits limit moment purpose answers (root ∷ below) cs
      is_permitted t = record {
        within = λ place c e. (Stands-at Bound limit cs place c (subst (λ ds. AllByRecursion (Stands Bound limit) ds) (same_chain t) t.chain.each) e).within;
        lasting = λ place p e.
            let lt = within place p e in
            let same = same_Some (here place lt).order p (sym (here place lt).order_is ∙ e) in
            subst (λ (q : PlainOrder). (unix_seconds (begins q) ≤ moment) × (moment ≤ unix_seconds (ends q))) same (
              leb-true (unix_seconds (begins (here place lt).order)) moment (sym (begun place lt) ∙ kept_in t rules.NotYetValid place lt),
              leb-true moment (unix_seconds (ends (here place lt).order)) (sym (lasting place lt) ∙ kept_in t rules.Expired place lt),
            );
        allowed = all_from_get (allows_one purpose) below (λ place p e.
            let lt = within (suc place) p e in
            let same = same_Some (here (suc place) lt).order p (sym (here (suc place) lt).order_is ∙ e) in
            sym (below_allows (length (root ∷ below)) place purpose p)
            ∙ ap (allows_in (role_at (length (root ∷ below)) (suc place)) purpose) (sym same)
            ∙ sym (serving_at (suc place) lt) ∙ kept_in t rules.AgainstPurpose (suc place) lt);
        sufficient = λ place p e.
            suffices_if (root ∷ below) cs h.count here fits_at
            (λ other lt. sym (in_length other lt) ∙ kept_in t rules.PathTooLong other lt) place (within place p e) p e;
        answered = λ place above c ea ec.
            let lt = slice_get_within cs place c ec in
            let that = here place lt in
            let same = same_Some that.above above (sym that.above_is ∙ ea) in
            let this = same_Some that.certificate c (sym that.certificate_is ∙ ec) in
            ap (λ (q : PlainOrder). answers q.key (outer_algorithm c) (part_octets (tbs c)) (signature_bits c)) (sym same)
            ∙ ap (λ (d : PlainCertificate). answers that.above.key (outer_algorithm d) (part_octets (tbs d)) (signature_bits d)) (sym this)
            ∙ sym (signed_at place lt) ∙ kept_in t rules.WrongSignature place lt;
      }

pub held_is_trusted : HeldIsTrusted
held_is_trusted root below cs stream limit moment purpose answers h p = is_trusted root below cs stream h moment purpose answers limit p

pub trusted_is_permitted : TrustedIsPermitted
trusted_is_permitted root below cs stream limit moment purpose answers h t = is_permitted root below cs stream h moment purpose answers limit t

pub held_is_refused_for : HeldIsRefusedFor
held_is_refused_for root below cs stream limit moment purpose answers place rule h r =
    let most = limit + length_max in
    let same = one_chain Bound most r.certificates cs stream (wider_chain limit most r.certificates stream (omega arith) r.chain) (wider_chain length_max most cs stream (omega arith) h.chain) in
    breaks root below cs stream h moment purpose answers rule place
    (subst (λ ds. place < length ds) same r.within)
    (subst (λ ds. keeps_at rule (terms_for root moment purpose answers) ds stream place ≡ false) same
    (broken_is (λ other. keeps_at other (terms_for root moment purpose answers) r.certificates stream place) in_order rule r.first))

pub signed_is_sliced : SignedIsSliced
signed_is_sliced ps cs stream place c h c_is = ap (λ s. signed_part Bound cs s place c) h.chain.joins ∙ signed_part-is Bound cs place c c_is

pub says_as_ordered : SaysAsOrdered
says_as_ordered root below cs stream place p c h p_is c_is =
    let lt = slice_get_within cs place c c_is in
    let that = here root below cs stream h place lt in
    let same_certificate = same_Some that.certificate c (sym that.certificate_is ∙ c_is) in
    let same_order = same_Some that.order p (sym that.order_is ∙ p_is) in
    ap (λ (d : PlainCertificate). map told (extensions_of d)) (sym same_certificate)
    ∙ ap (map told) (extensions_are (root ∷ below) cs place that)
    ∙ told_is (role_at (length (root ∷ below)) place) that.order that.above.key that.right (fits_at root below cs stream h place lt)
    ∙ ap (told_for (role_at (length (root ∷ below)) place)) same_order

-- A verifier that accepts everything that the signers may return accepts what they returned.
answered_by : {S : Type 0} (algorithm : S → Algorithm) (signs : S → List ℕ → Bits → Type 0) (answers : Answers) (ps : List PlainOrder) (signers : List S) (cs : List PlainCertificate)
    → AreSigned algorithm signs signers cs → AcceptsSigners algorithm signs answers ps signers → AreAnswered answers ps cs
answered_by algorithm signs answers ps signers cs signed accepts place above c above_is c_is =
    let s = signed place c c_is in
    ap (λ (a : Algorithm). answers above.key a (part_octets (tbs c)) (signature_bits c)) s.algorithm_is
    ∙ accepts.yes (place_above place) above s.signer (part_octets (tbs c)) (signature_bits c) above_is s.signer_is s.signed

pub issued_is_trusted : {S : Type 0} (key : S → PublicKey) (algorithm : S → Algorithm) (signs : S → List ℕ → Bits → Type 0) → IssuedIsTrusted key algorithm signs
issued_is_trusted key algorithm signs orders signers stream root below limit moment purpose answers issued are within lasting allowed sufficient accepts =
    let permits : Permits limit moment purpose answers issued.asked issued.certificates = record {
      within = within;
      lasting = lasting;
      allowed = allowed;
      sufficient = sufficient;
      answered = answered_by algorithm signs answers issued.asked signers issued.certificates issued.signed accepts;
    } in
    held_is_trusted root below issued.certificates stream limit moment purpose answers
    (subst (λ ps. HoldsOrders ps issued.certificates stream) are issued.holds)
    (subst (λ ps. Permits limit moment purpose answers ps issued.certificates) are permits)
