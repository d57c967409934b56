-- Laws about one step of a loop over trust anchors, and about comparing names.
use Rattle.std.proofs.Common.{◌≡◌, ℕ, zero, suc, ◌+◌, ◌<◌, ◌≤◌, Bool, true, false, cond, ◌&&◌, ◌||◌, List, [], ◌∷◌, length, get_or, map, drop, IsTrue, ◌↔◌, bytes_eq, refl, sym, ap, ◌∙◌, arith}
use Rattle.std.specs.List.{list_any}
use Rattle.std.proofs.lemmas.List.{at_drop_more, at_drop_all}
use Rattle.std.proofs.lemmas.Slice.Eq.{bytes_eq-Decides}
use Rattle.std.proofs.lemmas.Bool.Decides.{same_from_decides}
use Rattle.x509_cert_anchors.specs.CertCertificates.Certificates.{PlainCertificate}
use Rattle.x509_cert_anchors.specs.CertNames.Names.{PlainName, name_octets}
use Rattle.cert_desk_checking.specs.declared.anchor.Anchor.{Anchor}
use Rattle.cert_desk_checking.specs.Anchors.{anchor_plain}
use Rattle.cert_desk_rules.specs.Judging.{Answers, PlainAnchor}
use Rattle.cert_desk_rules.specs.Paths.{same_name}
use Rattle.cert_desk_rules.specs.Verdicts.{asked_until}
use Rattle.cert_desk_checking.specs.Places.{signs, asked_once}

-- Names with the same encoding.
pub same_name_by : (bound : ℕ) (r : Bool) (a b : PlainName) → IsTrue r ↔ (name_octets bound a ≡ name_octets bound b) → r ≡ same_name bound a b
same_name_by bound r a b h = same_from_decides r (bytes_eq (name_octets bound a) (name_octets bound b)) h (bytes_eq-Decides (name_octets bound a) (name_octets bound b))

-- A name equal to one that was compared.
pub same_name_is : (bound : ℕ) (r b : Bool) (m n o : PlainName) → r ≡ same_name bound m n → n ≡ o → r ≡ b → same_name bound m o ≡ b
same_name_is bound r b m n o h e t = ap (same_name bound m) (sym e) ∙ sym h ∙ t

abbrev any_left : (PlainAnchor → Bool) → List Anchor → Bool
any_left p xs = list_any p (map anchor_plain xs)

pub any_yes : (p : PlainAnchor → Bool) (xs : List Anchor) (i : ℕ) (d : Anchor) → i < length xs → p (anchor_plain (get_or xs i d)) ≡ true
    → list_any p (map anchor_plain (drop i xs)) ≡ true
any_yes p xs i d h e = at_drop_more (any_left p) xs i d h ∙ ap (λ b. b || any_left p (drop (i + 1) xs)) e

pub any_no : (p : PlainAnchor → Bool) (xs : List Anchor) (i : ℕ) (d : Anchor) → i < length xs → p (anchor_plain (get_or xs i d)) ≡ false
    → list_any p (map anchor_plain (drop (i + 1) xs)) ≡ list_any p (map anchor_plain (drop i xs))
any_no p xs i d h e = sym (at_drop_more (any_left p) xs i d h ∙ ap (λ b. b || any_left p (drop (i + 1) xs)) e)

-- If there is one trust anchor, it passes a test that one of all passes.
pub only_one : (p : PlainAnchor → Bool) (xs : List Anchor) (i : ℕ) (d : Anchor) → length xs ≡ 1 → i < length xs → list_any p (map anchor_plain xs) ≡ true → p (anchor_plain (get_or xs i d)) ≡ true
only_one p (a ∷ []) zero d one within some = or_none (p (anchor_plain a)) some
  where
    or_none : (b : Bool) → (b || false) ≡ true → b ≡ true
    or_none true e = refl
    or_none false e = e
only_one p (a ∷ []) (suc i) d one within some = absurd (omega arith)
only_one p _ i d one within some = absurd (omega arith)

-- Verifiers with the same answers agree on a trust anchor.
pub signs_is : (bound : ℕ) (a b : Answers) (signed : List ℕ) (c : PlainCertificate) (anchor : PlainAnchor) (r t : Bool) → a ≡ b → r ≡ signs bound a signed c anchor → r ≡ t → signs bound b signed c anchor ≡ t
signs_is bound a b signed c anchor r t e h k = ap (λ x. signs bound x signed c anchor) (sym e) ∙ sym h ∙ k

-- The remaining questions, after a trust anchor under whose key the signature is accepted, or
-- isn't.
module _ (bound : ℕ) (answers : Answers) (signed : List ℕ) (c : PlainCertificate) where
  abbrev questions_left : List Anchor → ℕ
  questions_left xs = asked_until bound answers signed c (map anchor_plain xs)

  once_yes : (named accepts : Bool) (more : ℕ) → (named && accepts) ≡ true → cond named (cond accepts 1 (1 + more)) more ≡ cond named 1 0
  once_yes true true more e = refl
  once_yes true false more e = absurd cc
  once_yes false accepts more e = absurd cc

  once_no : (named accepts : Bool) (more : ℕ) → (named && accepts) ≡ false → cond named (cond accepts 1 (1 + more)) more ≡ cond named 1 0 + more
  once_no true true more e = absurd cc
  once_no true false more e = refl
  once_no false accepts more e = omega arith

  pub asked_until_yes : (xs : List Anchor) (i : ℕ) (d : Anchor) → i < length xs → signs bound answers signed c (anchor_plain (get_or xs i d)) ≡ true
      → asked_until bound answers signed c (map anchor_plain (drop i xs)) ≡ asked_once bound c (anchor_plain (get_or xs i d))
  unfolding asked_once signs
  asked_until_yes xs i d h e = at_drop_more questions_left xs i d h ∙ once_yes _ _ _ e

  pub asked_until_no : (xs : List Anchor) (i : ℕ) (d : Anchor) → i < length xs → signs bound answers signed c (anchor_plain (get_or xs i d)) ≡ false
      → asked_until bound answers signed c (map anchor_plain (drop i xs)) ≡ asked_once bound c (anchor_plain (get_or xs i d)) + asked_until bound answers signed c (map anchor_plain (drop (i + 1) xs))
  unfolding asked_once signs
  asked_until_no xs i d h e = at_drop_more questions_left xs i d h ∙ once_no _ _ _ e

  pub asked_until_none : (xs : List Anchor) (i : ℕ) → length xs ≤ i → asked_until bound answers signed c (map anchor_plain (drop i xs)) ≡ 0
  asked_until_none xs i h = at_drop_all questions_left xs i h
