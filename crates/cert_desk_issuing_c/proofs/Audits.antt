-- Chains that orders ask for, validated with a verifier that accepts each signature.
use Rattle.std.proofs.Common.{◌≡◌, ◌≢◌, ◌⊎◌, inl, inr, ℕ, List, [], ◌∷◌, length, sym, ap, ◌∙◌, subst, arith}
use Rattle.cert_desk_orders.specs.Oid.Bound.{Bound}
use Rattle.cert_desk_orders.specs.Der.BitStrings.{Bits}
use Rattle.cert_desk_orders.specs.Der.Limits.{length_max}
use Rattle.cert_desk_orders.specs.Der.Shapes.{Spells}
use Rattle.cert_desk_orders.specs.CertParts.Grammar.{Algorithm, algorithm_identifier}
use Rattle.x509_cert_builders.specs.CertCertificates.Certificates.{PlainCertificate}
use Rattle.cert_desk_checking.specs.DeskIo.declared.exit_status.ExitStatus.{ExitStatus}
use Rattle.cert_desk_checking.specs.DeskRules.Identifiers.{IsSomeIdentifier, SpellsIdentifier}
use Rattle.cert_desk_checking.specs.DeskBundle.Chains.{Chain}
use Rattle.cert_desk_checking.proofs.DeskBundle.OneChain.{fault_no_chain}
use Rattle.cert_desk_checking.specs.DeskRules.declared.checked.Verdict.{Verdict}
use Rattle.cert_desk_checking.specs.DeskRules.declared.checked.Verdict.TheVariants as verdicts
use Rattle.cert_desk_checking.specs.DeskRules.Verdicts.{IsVerdict, Trusted}
use Rattle.cert_desk_checking.proofs.ChainLaws.{chain_is_some}
use Rattle.cert_desk_orders.specs.declared.order.Order.{Order}
use Rattle.cert_desk_orders.specs.OrdersFile.{SaysOrders}
use Rattle.cert_desk.specs.declared.issue_error.IssueError.{IssueError}
use Rattle.cert_desk.specs.declared.issue_error.IssueError.TheVariants as errors
use Rattle.cert_desk.specs.Acceptance.{AcceptedOrders}
use Rattle.cert_desk.specs.Chains.{HoldFront, HoldsOrders}
use Rattle.cert_desk.specs.Laws.{terms_for}
use Rattle.cert_desk.specs.PlainOrders.{PlainOrder}
use Rattle.cert_desk.specs.Runs.{signing_keys}
use Rattle.cert_desk.proofs.Trusting.{held_is_trusted, trusted_is_permitted}
use Rattle.cert_desk_issuing_c.specs.Auditing.{AreTrusted, IsAudit, IsBroken, IsJudged, Judges, always}
use Rattle.cert_desk_issuing_c.specs.Reasons.{TellsVerdict, place_of, reason_number, status_of}
use Rattle.cert_desk_issuing_c.specs.Signing.{AreFaulty, HoldEach, IsFault, RefusesEach, all_bits}
use Rattle.cert_desk_issuing_c.proofs.GivenChains.{refused_for}

-- The verdict on one chain of accepted orders is the verdict on each.
module _ (moment : ℕ) (purpose : List ℕ) (root : PlainOrder) (below : List PlainOrder) (cs : List PlainCertificate) (stream : List ℕ) (h : HoldsOrders (root ∷ below) cs stream) where
  are_trusted : Trusted (terms_for root moment purpose always) length_max stream → AreTrusted moment purpose root below
  are_trusted t = (
    (cs, stream, h),
    λ ds other limit answers g within answered.
        let p = trusted_is_permitted root below cs stream length_max moment purpose always h t in
        held_is_trusted root below ds other limit moment purpose answers g (record { within = within; lasting = p.lasting; allowed = p.allowed; sufficient = p.sufficient; answered = answered }),
  )

  judges : (v : Verdict) → IsVerdict (terms_for root moment purpose always) length_max stream v → Judges moment purpose root below v
  judges (verdicts.StreamFault place offset kind) v = absurd (fault_no_chain Bound length_max v.certificates cs kind stream v.found h.chain)
  judges verdicts.Empty v = absurd (chain_is_some Bound cs (omega (arith, h.count)) (sym v ∙ h.chain.joins))
  judges verdicts.Trusted v = are_trusted v
  judges (verdicts.Refused place rule) v = (cs, stream, h, v)

module _ (said : List Order) (moment : ℕ) (purpose : List ℕ) (cs : List PlainCertificate) (stream : List ℕ) (v : Verdict) (chain : Chain Bound length_max cs stream)
    (says : (root : PlainOrder) (below : List PlainOrder) (ds : List PlainCertificate) → HoldsOrders (root ∷ below) ds stream → IsVerdict (terms_for root moment purpose always) length_max stream v) where
  judged_for : (asked : List PlainOrder) → AcceptedOrders said (signing_keys said) asked → length cs ≡ length said → HoldFront asked cs → IsJudged said moment purpose v
  judged_for [] accepted count held = absurd (omega (arith, accepted.some, accepted.all))
  judged_for (root ∷ below) accepted count held =
      let h : HoldsOrders (root ∷ below) cs stream = record { count = count ∙ sym accepted.all; chain = chain; held = held } in
      (root, below, accepted, judges moment purpose root below cs stream h v (says root below cs h))

  pub is_judged : (a : Algorithm) (bits : Bits) → HoldEach said a bits cs → IsJudged said moment purpose v
  is_judged a bits each = judged_for each.asked each.accepted each.count each.held

-- The facts for each status.
module _ (orders algorithm : List ℕ) (moment : ℕ) (purpose : List ℕ) (place told : ℕ) where
  abbrev IsSo : ExitStatus → Type 0
  IsSo status = IsAudit orders algorithm moment purpose place told status

  pub faulty_argument : {A : Type 0} (status : ExitStatus) → IsSomeIdentifier purpose → (A → AreFaulty orders algorithm []) → IsFault A status → IsAudit orders algorithm moment purpose place told status
  faulty_argument status some f (inl why) = subst (λ s. IsSo s) (sym why.0) (inl (f why.1))
  faulty_argument status some f (inr memory) = subst (λ s. IsSo s) (sym memory) some

  module _ (said others : List Order) (a : Algorithm) (says : SaysOrders orders said) (spelled : Spells (algorithm_identifier Bound) a algorithm) (same : others ≡ said) where
    by_verdict : (arcs : List ℕ) → SpellsIdentifier purpose arcs → (v : Verdict) (status : ExitStatus) → TellsVerdict v place told status → IsJudged said moment arcs v → IsSo status
    by_verdict arcs e verdicts.Trusted status tells j = subst (λ s. IsSo s) (sym tells) (arcs, e, (said, a, says, spelled, j))
    by_verdict arcs e (verdicts.Refused at rule) status tells j =
        let broken = subst (λ n. IsBroken moment arcs j.0 j.1 n rule) (sym tells.0) j.3 in
        subst (λ s. IsSo s) (sym tells.2) (inr (arcs, e, (said, a, says, spelled, (j.0, j.1, j.2, (rule, tells.1, broken)))))
    by_verdict arcs e (verdicts.StreamFault at from kind) status tells j = absurd j.3
    by_verdict arcs e verdicts.Empty status tells j = absurd j.3

    pub audited : (arcs : List ℕ) → SpellsIdentifier purpose arcs → (v : Verdict) (status : ExitStatus) → TellsVerdict v place told status → IsJudged others moment arcs v → IsAudit orders algorithm moment purpose place told status
    audited arcs e v status tells j = by_verdict arcs e v status tells (subst (λ (os : List Order). IsJudged os moment arcs v) same j)

    pub unaudited : (arcs : List ℕ) → SpellsIdentifier purpose arcs → (bits : Bits) (error : IssueError) (status : ExitStatus) → bits ≡ all_bits [] → (error ≡ errors.OutOfMemory) ⊎ RefusesEach others a bits error
        → (error ≢ errors.OutOfMemory → (place ≡ place_of error) × (told ≡ reason_number error)) → status ≡ status_of error
        → IsAudit orders algorithm moment purpose place told status
    unaudited arcs p bits error status f why tells is =
        elim (refused_for orders algorithm [] said others a bits error says spelled same f (omega arith) why) [
          | inl memory ↦ subst (λ s. IsSo s) (sym (is ∙ ap status_of memory)) (arcs, p)
          | inr refused ↦ (let its = tells refused.0.1 in subst (λ s. IsSo s) (sym (is ∙ refused.1)) (inl (arcs, error, p, its.0, its.1, refused.0)))
        ]
