-- An issued chain is validated under its own root.
use Rattle.std.proofs.Common.{◌≡◌, ◌≢◌, ◌⊎◌, inl, inr, ℕ, ◌<◌, List, [], ◌∷◌, length, Some, Result, Ok, Err, OnErr, slice_get, refl, sym, ap, ◌∙◌, subst, arith}
use Rattle.cert_desk_listing.specs.Oid.Bound.{Bound}
use Rattle.cert_desk_listing.specs.Der.Limits.{length_max}
use Rattle.cert_desk_listing.specs.CertCertificates.Certificates.{PlainCertificate, public_key}
use Rattle.cert_desk_listing.specs.CertNames.Names.{PlainName}
use Rattle.cert_desk_orders.specs.CertParts.Grammar.{PublicKey}
use Rattle.cert_desk_checking.specs.DeskRules.declared.checked.Verdict.{Verdict}
use Rattle.cert_desk_checking.specs.DeskRules.declared.checked.Verdict.TheVariants as verdicts
use Rattle.cert_desk_checking.specs.DeskBundle.declared.standing.Standing.{Standing}
use Rattle.cert_desk_checking.specs.DeskBundle.declared.standing.Standing.TheVariants as standings
use Rattle.cert_desk_checking.specs.DeskBundle.Chains.{Chain}
use Rattle.cert_desk_checking.specs.DeskRules.Judging.{Answers, PlainAnchor, Terms}
use Rattle.cert_desk_checking.specs.DeskRules.Verdicts.{IsVerdict}
use Rattle.cert_desk_checking.proofs.ChainLaws.{only_trusted}
use Rattle.cert_desk_checking.proofs.DeskBundle.OneChain.{one_chain}
use Rattle.cert_desk_checking.specs.Issuers.{as_anchor}
use Rattle.cert_desk.specs.Laws.{root_anchors, Permits, anchor_of, terms_for}
use Rattle.cert_desk.specs.Chains.{HoldsOrders}
use Rattle.cert_desk.specs.PlainOrders.{PlainOrder}
use Rattle.std.proofs.lemmas.Option.{same_Some}
use Rattle.cert_desk.proofs.Trusting.{held_at, held_is_trusted, key_is, subject_is, trusted_is_permitted}

-- A single trust anchor.
abbrev anchor_alone : PlainName → PublicKey → List PlainAnchor
anchor_alone name key = record { name = name; key = key } ∷ []

-- The trust anchor is that of the root's order.
module _ (root : PlainOrder) (below : List PlainOrder) (cs own : List PlainCertificate) (stream : List ℕ) (h : HoldsOrders (root ∷ below) cs stream) (chain : Chain Bound length_max own stream) where
  first_anchor : (ds : List PlainCertificate) → (c : PlainCertificate) → slice_get ds 0 ≡ Some c → root_anchors ds ≡ as_anchor c ∷ []
  first_anchor [] c e = absurd cc
  first_anchor (d ∷ ds) c e = ap (λ x. as_anchor x ∷ []) (same_Some d c e)

  pub anchors_are : root_anchors own ≡ anchor_of root ∷ []
  anchors_are =
      let some : 0 < length cs = omega (arith, h.count) in
      let here = held_at (root ∷ below) cs h.held 0 some in
      let first : here.order ≡ root = same_Some here.order root (sym here.order_is) in
      let named = subject_is (root ∷ below) cs 0 here ∙ ap (λ (p : PlainOrder). p.subject) first in
      let keyed = key_is (root ∷ below) cs 0 here ∙ ap (λ (p : PlainOrder). p.key) first in
      ap root_anchors (one_chain Bound length_max own cs stream chain h.chain)
      ∙ first_anchor cs here.certificate here.certificate_is
      ∙ ap (λ (n : PlainName). anchor_alone n (public_key here.certificate)) named
      ∙ ap (λ (k : PublicKey). anchor_alone root.subject k) keyed

  -- A fact about the chain's own first certificate as the trust anchor is one about the root's
  -- order as the trust anchor.
  pub under_root : (anchors : List PlainAnchor) (moment : ℕ) (purpose : List ℕ) (answers : Answers) (n limit : ℕ) (P : Terms → ℕ → Type 0) → anchors ≡ root_anchors own → n ≡ limit
      → P (record { bound = Bound; anchors = anchors; moment = moment; purpose = purpose; answers = answers }) n → P (terms_for root moment purpose answers) limit
  under_root anchors moment purpose answers n limit P same_anchors same_limit p =
      subst (λ k. P (terms_for root moment purpose answers) k) same_limit
      (subst (λ (xs : List PlainAnchor). P (record { bound = Bound; anchors = xs; moment = moment; purpose = purpose; answers = answers }) n) (same_anchors ∙ anchors_are) p)

-- A fact that holds anyway also holds after an error.
pub on_error : {T E : Type 0} {P : Type 0} (r : Result T E) → P → OnErr r P
on_error (Ok x) p = tt
on_error (Err e) p = p

-- One fact for a bundle whose input isn't complete, and another for a bundle whose input is.
pub asked_or_not : {A B : Type 0} (s : Standing) → ((s ≢ standings.Ended) → A) → (s ≡ standings.Ended → B) → A ⊎ B
asked_or_not standings.Ended other ended = inr (ended refl)
asked_or_not _ other ended = inl (other (λ e. absurd cc))

-- The chain is trusted exactly if the check permits it.
pub exactly : (root : PlainOrder) (below : List PlainOrder) (cs : List PlainCertificate) (stream : List ℕ) (limit moment : ℕ) (purpose : List ℕ) (answers : Answers) (v : Verdict)
    → HoldsOrders (root ∷ below) cs stream → IsVerdict (terms_for root moment purpose answers) limit stream v
    → (v ≡ verdicts.Trusted → Permits limit moment purpose answers (root ∷ below) cs) × (Permits limit moment purpose answers (root ∷ below) cs → v ≡ verdicts.Trusted)
exactly root below cs stream limit moment purpose answers v h is = (
  λ e. trusted_is_permitted root below cs stream limit moment purpose answers h (subst (λ w. IsVerdict (terms_for root moment purpose answers) limit stream w) e is),
  λ p. only_trusted (terms_for root moment purpose answers) limit stream v is (held_is_trusted root below cs stream limit moment purpose answers h p),
)
