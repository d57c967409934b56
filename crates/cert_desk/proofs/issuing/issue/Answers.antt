-- Goals of `issuing::issue` that the checker doesn't prove by itself.
use Rattle.std.proofs.Common.{◌≡◌, List, [], map, sym, ◌∙◌, subst, arith}
use Rattle.std.proofs.lemmas.Result.{err_from_is_err_and}
use Rattle.std.specs.Prelude.{IfErr}
use Rattle.cert_desk.specs.declared.accepted.Accepted.{Accepted}
use Rattle.cert_desk.specs.Acceptance.{AcceptedOrders}
use Rattle.cert_desk.specs.Chains.{HoldsOrders}
use Rattle.cert_desk.specs.PlainOrders.{AreKeys, AreReady, orders_plain}
use Rattle.cert_desk.specs.Refusals.{Refuses}
use Rattle.cert_desk.proofs.AcceptedFronts.{all_accepted, are_keys, are_ready}
use Rattle.cert_desk.proofs.OnlyMemory.{issuable_is_issued, only_long}
use Rattle.cert_desk.proofs.issuing.issue.Goals as goal

pub issue_all-requires-clause-ready : goal.issue_all-requires-clause-ready
issue_all-requires-clause-ready g c =
    let key = g.S.Signer.public_key in
    let orders = c.args.orders.now in
    let some : orders ≡ [] → ⊥ = λ e. grind arith in
    let all = all_accepted key orders c.args.signers.now c.in_ok-accepted.accepted.items some (c.if-signers-signers_for.false ∙ c.signers_for.ensures) c.in_ok-accepted.ensures.all c.in_ok-accepted.ensures.accepted in
    subst (λ (xs : List Accepted). AreReady (orders_plain xs)) (sym c.as_slice.ensures.value)
    (are_ready orders (map key c.args.signers.now) (orders_plain c.in_ok-accepted.accepted.items) all)

pub issue_all-requires-clause-keys : goal.issue_all-requires-clause-keys
issue_all-requires-clause-keys g c =
    let key = g.S.Signer.public_key in
    let orders = c.args.orders.now in
    let some : orders ≡ [] → ⊥ = λ e. grind arith in
    let all = all_accepted key orders c.args.signers.now c.in_ok-accepted.accepted.items some (c.if-signers-signers_for.false ∙ c.signers_for.ensures) c.in_ok-accepted.ensures.all c.in_ok-accepted.ensures.accepted in
    subst (λ (xs : List Accepted). AreKeys (map key c.args.signers.now) (orders_plain xs)) (sym c.as_slice.ensures.value)
    (are_keys orders (map key c.args.signers.now) (orders_plain c.in_ok-accepted.accepted.items) all)

pub returns-clause-issued : goal.returns-clause-issued
returns-clause-issued g c =
    let key = g.S.Signer.public_key in
    let orders = c.args.orders.now in
    let some : orders ≡ [] → ⊥ = λ e. grind arith in
    let all = all_accepted key orders c.args.signers.now c.in_ok-accepted.accepted.items some (c.if-signers-signers_for.false ∙ c.signers_for.ensures) c.in_ok-accepted.ensures.all c.in_ok-accepted.ensures.accepted in
    let issued = c.in_ok-issued.issued in
    record {
      asked = orders_plain c.in_ok-accepted.accepted.items;
      certificates = issued.certificates;
      accepted = all;
      holds = subst (λ (xs : List Accepted). HoldsOrders (orders_plain xs) issued.certificates issued.stream) c.as_slice.ensures.value c.in_ok-issued.ensures.holds;
      signed = c.in_ok-issued.ensures.signed;
    }

pub returns-in_err-issued-clause-refused : goal.returns-in_err-issued-clause-refused
returns-in_err-issued-clause-refused g c =
    let key = g.S.Signer.public_key in
    let orders = c.args.orders.now in
    let signers = c.args.signers.now in
    let some : orders ≡ [] → ⊥ = λ e. grind arith in
    let all = all_accepted key orders signers c.in_ok-accepted.accepted.items some (c.if-signers-signers_for.false ∙ c.signers_for.ensures) c.in_ok-accepted.ensures.all c.in_ok-accepted.ensures.accepted in
    let p = err_from_is_err_and c.from_residual-in_err-issued.result c.from_residual-in_err-issued.ensures.1 in
    rw (p.1, p.2) (c.in_err-issued.ensures.stopped orders
    (subst (λ (xs : List Accepted). AcceptedOrders orders (map key signers) (orders_plain xs)) (sym c.as_slice.ensures.value) all))

pub returns-in_err-accepted-clause-complete : goal.returns-in_err-accepted-clause-complete
returns-in_err-accepted-clause-complete g c = λ issuable.
    let s = g.S.Signer in
    let p = err_from_is_err_and c.from_residual.result c.from_residual.ensures.1 in
    rw (p.1, p.2) (issuable_is_issued s.public_key s.signs_by s.signs s.may_refuse c.args.orders.now c.args.signers.now c.in_err-accepted.field-0.0 issuable c.in_err-accepted.ensures.refused)

pub returns-in_err-issued-clause-complete : goal.returns-in_err-issued-clause-complete
returns-in_err-issued-clause-complete g c = λ issuable.
    let s = g.S.Signer in
    let p = err_from_is_err_and c.from_residual-in_err-issued.result c.from_residual-in_err-issued.ensures.1 in
    rw p.1 (issuable_is_issued s.public_key s.signs_by s.signs s.may_refuse c.args.orders.now c.args.signers.now p.0 issuable (subst (λ r. IfErr r (Refuses s.public_key s.signs_by s.signs s.may_refuse c.args.orders.now c.args.signers.now)) p.1 (returns-in_err-issued-clause-refused g c)))

pub returns-in_err-accepted-clause-signable : goal.returns-in_err-accepted-clause-signable
returns-in_err-accepted-clause-signable g c = λ signable.
    let s = g.S.Signer in
    let p = err_from_is_err_and c.from_residual.result c.from_residual.ensures.1 in
    rw (p.1, p.2) (only_long s.public_key s.signs_by s.signs s.may_refuse c.args.orders.now c.args.signers.now signable c.in_err-accepted.field-0.0 c.in_err-accepted.ensures.refused)

pub returns-in_err-issued-clause-signable : goal.returns-in_err-issued-clause-signable
returns-in_err-issued-clause-signable g c = λ signable.
    let s = g.S.Signer in
    let p = err_from_is_err_and c.from_residual-in_err-issued.result c.from_residual-in_err-issued.ensures.1 in
    rw p.1 (only_long s.public_key s.signs_by s.signs s.may_refuse c.args.orders.now c.args.signers.now signable p.0 (subst (λ r. IfErr r (Refuses s.public_key s.signs_by s.signs s.may_refuse c.args.orders.now c.args.signers.now)) p.1 (returns-in_err-issued-clause-refused g c)))
