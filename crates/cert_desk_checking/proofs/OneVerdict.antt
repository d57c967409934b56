-- An input has at most one verdict.
use Rattle.std.proofs.Common.{◌≡◌, ℕ, ◌<◌, ◌^◌, List, [], length, true, not, Some, refl, sym, ap, ◌∙◌, subst, arith, inl, inr}
use Rattle.std.specs.List.{find}
use Rattle.std.proofs.lemmas.Bool.{both_ways, cases_order}
use Rattle.std.proofs.lemmas.Option.{same_Some}
use Rattle.x509_cert_anchors.specs.CertCertificates.Certificates.{PlainCertificate}
use Rattle.cert_desk_rules.specs.declared.checked.Verdict.{Verdict}
use Rattle.cert_desk_rules.specs.declared.checked.Verdict.TheVariants as verdicts
use Rattle.cert_desk_rules.specs.DeskBundle.declared.fault_kind.FaultKind.{FaultKind}
use Rattle.cert_desk_rules.specs.declared.rule.Rule.{Rule}
use Rattle.cert_desk_rules.specs.DeskBundle.Chains.{Chain, joined}
use Rattle.cert_desk_rules.specs.Judging.{Terms, in_order, keeps_at}
use Rattle.cert_desk_rules.specs.Verdicts.{IsVerdict, Faulty, Refused}
use Rattle.cert_desk_rules.proofs.RuleList.{broken_is}
use Rattle.cert_desk_rules.proofs.DeskBundle.OneChain.{one_chain, one_fault, fault_no_chain}
use Rattle.cert_desk_checking.proofs.ChainLaws.{chain_is_some, only_trusted}
use Rattle.cert_desk_checking.proofs.Outcomes.{kept_below-at}

module _ (t : Terms) (limit : ℕ) (stream : List ℕ) where
  -- Of two indexes at which the chain is rejected, neither is before the other.
  none_before : (p q : ℕ) (rule other : Rule) → Refused t limit stream p rule → Refused t limit stream q other → p < q → ⊥
  none_before p q rule other f g below =
      let same = one_chain t.bound limit f.certificates g.certificates stream f.chain g.chain in
      let kept = kept_below-at t g.certificates stream q p g.kept below rule in
      both_ways _ (broken_is (λ x. keeps_at x t f.certificates stream p) in_order rule f.first)
      (subst (λ (cs : List PlainCertificate). keeps_at rule t cs stream p ≡ true) (sym same) kept)

  one_refusal : (p q : ℕ) (rule other : Rule) → Refused t limit stream p rule → Refused t limit stream q other → verdicts.Refused p rule ≡ verdicts.Refused q other
  one_refusal p q rule other f g =
      elim (cases_order p q) [
        | inl e ↦
            (let same = one_chain t.bound limit f.certificates g.certificates stream f.chain g.chain in
            let here = subst (λ (n : ℕ). find (λ x. not (keeps_at x t g.certificates stream n)) in_order ≡ Some other) (sym e) g.first in
            let first = subst (λ (cs : List PlainCertificate). find (λ x. not (keeps_at x t cs stream p)) in_order ≡ Some other) (sym same) here in
            ap (λ n. verdicts.Refused n rule) e ∙ ap (λ x. verdicts.Refused q x) (same_Some rule other (sym f.first ∙ first)))
        | inr (inl below) ↦ absurd (none_before p q rule other f g below)
        | inr (inr below) ↦ absurd (none_before q p other rule g f below)
      ]

  one_faulty : (p o q n : ℕ) (kind other : FaultKind) → Faulty t limit stream p o kind → Faulty t limit stream q n other
      → verdicts.StreamFault p o kind ≡ verdicts.StreamFault q n other
  one_faulty p o q n kind other f g =
      let same = one_fault t.bound limit f.certificates g.certificates kind other stream f.found g.found in
      let place : p ≡ q = f.place_is ∙ ap (λ (cs : List PlainCertificate). length cs) same.0 ∙ sym g.place_is in
      let offset : o ≡ n = f.offset_is ∙ ap (λ (cs : List PlainCertificate). length (joined t.bound cs)) same.0 ∙ sym g.offset_is in
      ap (λ x. verdicts.StreamFault x o kind) place ∙ ap (λ x. verdicts.StreamFault q x kind) offset ∙ ap (λ x. verdicts.StreamFault q n x) same.1

  -- Empty input is the chain of no certificates only.
  empty_chain : stream ≡ [] → Chain t.bound limit [] stream
  empty_chain e = record { each = tt; joins = e; fits = subst (λ (s : List ℕ). length s < 2 ^ 64) (sym e) (omega arith) }

  empty_refused : (p : ℕ) (rule : Rule) → stream ≡ [] → Refused t limit stream p rule → ⊥
  empty_refused p rule e f = chain_is_some t.bound f.certificates (omega (arith, f.within)) (sym e ∙ f.chain.joins)

  empty_faulty : (p o : ℕ) (kind : FaultKind) → stream ≡ [] → Faulty t limit stream p o kind → ⊥
  empty_faulty p o kind e f = fault_no_chain t.bound limit f.certificates [] kind stream f.found (empty_chain e)

  faulty_refused : (p o q : ℕ) (kind : FaultKind) (rule : Rule) → Faulty t limit stream p o kind → Refused t limit stream q rule → ⊥
  faulty_refused p o q kind rule f g = fault_no_chain t.bound limit f.certificates g.certificates kind stream f.found g.chain

pub one_verdict : (t : Terms) (limit : ℕ) (stream : List ℕ) (verdict other : Verdict) → IsVerdict t limit stream verdict → IsVerdict t limit stream other → verdict ≡ other
one_verdict t limit stream verdicts.Trusted other v w = sym (only_trusted t limit stream other w v)
one_verdict t limit stream (verdicts.StreamFault p o kind) verdicts.Trusted v w = only_trusted t limit stream (verdicts.StreamFault p o kind) v w
one_verdict t limit stream (verdicts.StreamFault p o kind) verdicts.Empty v w = absurd (empty_faulty t limit stream p o kind w v)
one_verdict t limit stream (verdicts.StreamFault p o kind) (verdicts.StreamFault q n other) v w = one_faulty t limit stream p o q n kind other v w
one_verdict t limit stream (verdicts.StreamFault p o kind) (verdicts.Refused q rule) v w = absurd (faulty_refused t limit stream p o q kind rule v w)
one_verdict t limit stream verdicts.Empty verdicts.Trusted v w = only_trusted t limit stream verdicts.Empty v w
one_verdict t limit stream verdicts.Empty verdicts.Empty v w = refl
one_verdict t limit stream verdicts.Empty (verdicts.StreamFault q n other) v w = absurd (empty_faulty t limit stream q n other v w)
one_verdict t limit stream verdicts.Empty (verdicts.Refused q rule) v w = absurd (empty_refused t limit stream q rule v w)
one_verdict t limit stream (verdicts.Refused p rule) verdicts.Trusted v w = only_trusted t limit stream (verdicts.Refused p rule) v w
one_verdict t limit stream (verdicts.Refused p rule) verdicts.Empty v w = absurd (empty_refused t limit stream p rule w v)
one_verdict t limit stream (verdicts.Refused p rule) (verdicts.StreamFault q n other) v w = absurd (faulty_refused t limit stream q n p other rule w v)
one_verdict t limit stream (verdicts.Refused p rule) (verdicts.Refused q other) v w = one_refusal t limit stream p q rule other v w
