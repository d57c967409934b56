-- Trust anchors with other names than the first issuer's change nothing, and few questions are
-- asked.
use Rattle.std.proofs.Common.{◌≡◌, ℕ, zero, suc, ◌+◌, ◌≤◌, List, [], ◌∷◌, length, Bool, true, false, ◌&&◌, ◌||◌, cond, Option, Some, None, slice_get, refl, sym, ap, ◌∙◌, arith}
use Rattle.std.specs.List.{filter, list_any}
use Rattle.std.specs.Option.{option_map_or}
use Rattle.x509_cert_anchors.specs.CertCertificates.Certificates.{PlainCertificate}
use Rattle.cert_desk_rules.specs.declared.checked.Verdict.{Verdict}
use Rattle.cert_desk_rules.specs.declared.rule.Rule.{Rule}
use Rattle.cert_desk_rules.specs.declared.rule.Rule.TheVariants as rules
use Rattle.cert_desk_rules.specs.DeskBundle.Chains.{Chain}
use Rattle.cert_desk_checking.specs.Issuers.{among, anchors_named}
use Rattle.cert_desk_rules.specs.Judging.{Terms, PlainAnchor, is_named, keeps, keeps_at, may_ask}
use Rattle.cert_desk_rules.specs.Verdicts.{IsVerdict, all_kept_below, asked, asked_below}
use Rattle.cert_desk_rules.proofs.Asking.{asked_anchors, says_yes}
use Rattle.cert_desk_checking.proofs.AlikeTerms.{Alike, asked_alike, asked_of_first, verdict_alike}

-- A test on a filtered list.

module _ {A : Type 0} (kept test : A → Bool) (only : (x : A) → kept x ≡ false → test x ≡ false) where
  any_step : (x : A) (rest : List A) (b : Bool) → kept x ≡ b → (test x || list_any test rest) ≡ list_any test (cond b (x ∷ rest) rest)
  any_step x rest true e = refl
  any_step x rest false e = ap (λ y. y || list_any test rest) (only x e)

  any_kept : (xs : List A) → list_any test xs ≡ list_any test (filter kept xs)
  any_kept [] = refl
  any_kept (x ∷ xs) = ap (λ b. test x || b) (any_kept xs) ∙ any_step x (filter kept xs) (kept x) refl

  any_same : (xs ys : List A) → filter kept xs ≡ filter kept ys → list_any test xs ≡ list_any test ys
  any_same xs ys e = any_kept xs ∙ ap (list_any test) e ∙ sym (any_kept ys)

length_kept : {A : Type 0} (kept : A → Bool) (xs : List A) → length (filter kept xs) ≤ length xs
length_kept kept [] = omega arith
length_kept kept (x ∷ xs) = by (kept x) (length_kept kept xs)
  where
    by : (b : Bool) → length (filter kept xs) ≤ length xs → length (cond b (x ∷ filter kept xs) (filter kept xs)) ≤ suc (length xs)
    by true h = omega arith
    by false h = omega arith

-- The verifier is only asked under trust anchors with the issuer's name.

module _ (t : Terms) (cs : List PlainCertificate) (stream : List ℕ) (c : PlainCertificate) where
  asked_step : (a : PlainAnchor) (rest : List PlainAnchor) (b answer : Bool)
      → asked_anchors t cs stream c (a ∷ rest) ≡ cond b (cond answer 1 (1 + asked_anchors t cs stream c rest)) (asked_anchors t cs stream c rest)
      → cond b (cond answer 1 (1 + asked_anchors t cs stream c rest)) (asked_anchors t cs stream c rest) ≡ asked_anchors t cs stream c (cond b (a ∷ rest) rest)
  asked_step a rest true answer e = sym e
  asked_step a rest false answer e = refl

  asked_kept : (anchors : List PlainAnchor) → asked_anchors t cs stream c anchors ≡ asked_anchors t cs stream c (anchors_named t.bound c anchors)
  asked_kept [] = refl
  asked_kept (a ∷ more) =
      ap (λ n. cond (is_named t.bound c a) (cond (says_yes t cs stream 0 c a.key) 1 (1 + n)) n) (asked_kept more)
      ∙ asked_step a (anchors_named t.bound c more) (is_named t.bound c a) (says_yes t cs stream 0 c a.key) refl

  few_step : (b answer : Bool) (a : PlainAnchor) (rest : List PlainAnchor) (n : ℕ) → n ≤ length rest → cond b (cond answer 1 (1 + n)) n ≤ length (cond b (a ∷ rest) rest)
  few_step true true a rest n h = omega arith
  few_step true false a rest n h = omega arith
  few_step false answer a rest n h = h

  few_anchors : (anchors : List PlainAnchor) → asked_anchors t cs stream c anchors ≤ length (anchors_named t.bound c anchors)
  few_anchors [] = omega arith
  few_anchors (a ∷ more) =
      few_step (is_named t.bound c a) (says_yes t cs stream 0 c a.key) a (anchors_named t.bound c more) (asked_anchors t cs stream c more) (few_anchors more)

at_most : (b : Bool) (n most : ℕ) → n ≤ most → cond b n 0 ≤ most
at_most true n most h = h
at_most false n most h = omega arith

few_below : (t : Terms) (c : PlainCertificate) (cs : List PlainCertificate) (stream : List ℕ) (place : ℕ)
    → asked_below t (c ∷ cs) stream (suc place) ≤ place + length (anchors_named t.bound c t.anchors)
few_below t c cs stream zero =
    omega (arith, at_most (all_kept_below t (c ∷ cs) stream 0 && may_ask t (c ∷ cs) stream 0) (asked_anchors t (c ∷ cs) stream c t.anchors) (length (anchors_named t.bound c t.anchors)) (few_anchors t (c ∷ cs) stream c t.anchors))
few_below t c cs stream (suc place) =
    omega (arith, at_most (all_kept_below t (c ∷ cs) stream (suc place) && may_ask t (c ∷ cs) stream (suc place)) 1 1 (omega arith), few_below t c cs stream place)

few_named : (t : Terms) (c : PlainCertificate) (cs : List PlainCertificate) (stream : List ℕ)
    → asked t (c ∷ cs) stream ≤ length cs + length (anchors_named t.bound c t.anchors)
unfolding asked
few_named t c cs stream = few_below t c cs stream (length cs)

pub few_questions : (t : Terms) (c : PlainCertificate) (cs : List PlainCertificate) (stream : List ℕ)
    → (asked t (c ∷ cs) stream ≤ length cs + length (anchors_named t.bound c t.anchors)) × (asked t (c ∷ cs) stream ≤ length cs + length t.anchors)
few_questions t c cs stream =
    let few = few_named t c cs stream in
    (few, omega (arith, few, length_kept (is_named t.bound c) t.anchors))

-- Trust anchors with other names.

module _ (t : Terms) (others : List PlainAnchor) (stream : List ℕ) (c : PlainCertificate) (cs : List PlainCertificate)
    (same : anchors_named t.bound c t.anchors ≡ anchors_named t.bound c others) where
  keeps_first : (rule : Rule) → keeps rule t (c ∷ cs) stream 0 c ≡ keeps rule (among t others) (c ∷ cs) stream 0 c
  keeps_first rules.WrongIssuer = any_same (is_named t.bound c) (is_named t.bound c) (λ a e. e) t.anchors others same
  keeps_first rules.WrongSignature =
      any_same (is_named t.bound c) (λ a. is_named t.bound c a && says_yes t (c ∷ cs) stream 0 c a.key)
      (λ a e. ap (λ b. b && says_yes t (c ∷ cs) stream 0 c a.key) e) t.anchors others same
  keeps_first _ = refl

  keeps_later : (rule : Rule) (before : ℕ) (o : Option PlainCertificate)
      → option_map_or (keeps rule t (c ∷ cs) stream (suc before)) o true ≡ option_map_or (keeps rule (among t others) (c ∷ cs) stream (suc before)) o true
  keeps_later rule before None = refl
  keeps_later rules.AlgorithmsDiffer before (Some d) = refl
  keeps_later _ before (Some d) = refl

  keep_same : (rule : Rule) (place : ℕ) → keeps_at rule t (c ∷ cs) stream place ≡ keeps_at rule (among t others) (c ∷ cs) stream place
  keep_same rule zero = keeps_first rule
  keep_same rule (suc before) = keeps_later rule before (slice_get cs before)

  asked_same : asked_of_first t (c ∷ cs) stream ≡ asked_of_first (among t others) (c ∷ cs) stream
  asked_same =
      asked_kept t (c ∷ cs) stream c t.anchors ∙ ap (asked_anchors t (c ∷ cs) stream c) same ∙ sym (asked_kept t (c ∷ cs) stream c others)
      ∙ asked_any others
    where
      asked_any : (anchors : List PlainAnchor) → asked_anchors t (c ∷ cs) stream c anchors ≡ asked_anchors (among t others) (c ∷ cs) stream c anchors
      asked_any [] = refl
      asked_any (a ∷ more) = ap (λ n. cond (is_named t.bound c a) (cond (says_yes t (c ∷ cs) stream 0 c a.key) 1 (1 + n)) n) (asked_any more)

strangers_alike : (t : Terms) (others : List PlainAnchor) (limit : ℕ) (stream : List ℕ)
    → ((c : PlainCertificate) (cs : List PlainCertificate) → Chain t.bound limit (c ∷ cs) stream → anchors_named t.bound c t.anchors ≡ anchors_named t.bound c others)
    → (cs : List PlainCertificate) → Chain t.bound limit cs stream → Alike t (among t others) cs stream
strangers_alike t others limit stream same [] chain = record { keep = λ rule place. refl; first = refl }
strangers_alike t others limit stream same (c ∷ cs) chain = record {
  keep = keep_same t others stream c cs (same c cs chain);
  first = asked_same t others stream c cs (same c cs chain);
}

pub ignores_strangers : (t : Terms) (others : List PlainAnchor) (limit : ℕ) (stream : List ℕ)
    → ((c : PlainCertificate) (cs : List PlainCertificate) → Chain t.bound limit (c ∷ cs) stream → anchors_named t.bound c t.anchors ≡ anchors_named t.bound c others)
    → ((verdict : Verdict) → IsVerdict t limit stream verdict → IsVerdict (among t others) limit stream verdict)
    × ((cs : List PlainCertificate) → Chain t.bound limit cs stream → asked t cs stream ≡ asked (among t others) cs stream)
ignores_strangers t others limit stream same = (
  verdict_alike t (among t others) limit stream (λ cs chain. chain) (strangers_alike t others limit stream same)
      (λ place offset kind v. record { certificates = v.certificates; found = v.found; place_is = v.place_is; offset_is = v.offset_is }),
  λ cs chain. asked_alike t (among t others) cs stream (strangers_alike t others limit stream same cs chain),
)
