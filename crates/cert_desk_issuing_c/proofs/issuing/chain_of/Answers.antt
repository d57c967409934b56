-- Goals of `issuing::chain_of` that the checker doesn't prove by itself.
use Rattle.std.proofs.Common.{◌≡◌, List, inl, inr, subst}
use Rattle.std.proofs.lemmas.Result.{err_from_is_err_and}
use Rattle.cert_desk_orders.specs.Der.BitStrings.{Bits}
use Rattle.cert_desk_orders.specs.CertParts.Views.{algorithm_plain}
use Rattle.cert_desk_orders.specs.declared.order.Order.{Order}
use Rattle.cert_desk_issuing_c.specs.Signing.{HoldEach}
use Rattle.cert_desk_issuing_c.proofs.GivenChains.{fault_by, refused_by}
use Rattle.cert_desk_issuing_c.proofs.issuing.chain_of.Goals as goal

pub returns-in_err-said-clause-refused : goal.returns-in_err-said-clause-refused
returns-in_err-said-clause-refused c =
    let p = err_from_is_err_and c.from_residual.result c.from_residual.ensures.1 in
    rw (p.1, p.2) (inr (fault_by c.in_err-said.field-0.0 inl c.in_err-said.ensures.refused))

pub returns-in_err-by-clause-refused : goal.returns-in_err-by-clause-refused
returns-in_err-by-clause-refused c =
    let p = err_from_is_err_and c.from_residual-in_err-by.result c.from_residual-in_err-by.ensures.1 in
    rw (p.1, p.2) (inr (fault_by c.in_err-by.field-0.0 (λ none. inr (inl none)) c.in_err-by.ensures.refused))

pub returns-in_err-bits-clause-refused : goal.returns-in_err-bits-clause-refused
returns-in_err-bits-clause-refused c =
    let p = err_from_is_err_and c.from_residual-in_err-bits.result c.from_residual-in_err-bits.ensures.1 in
    rw (p.1, p.2) (inr (fault_by c.in_err-bits.field-0.0 (λ long. inr (inr long)) c.in_err-bits.ensures.refused))

pub returns-in-Ok-clause-issued : goal.returns-in-Ok-clause-issued
returns-in-Ok-clause-issued c =
    let a = algorithm_plain c.in_ok-by.by in
    let cs = c.in-Ok.issued.certificates in (
      c.in_ok-said.said.items,
      a,
      c.in_ok-said.ensures.said,
      c.in_ok-by.ensures.spelled,
      subst (λ (b : Bits). HoldEach c.in_ok-said.said.items a b cs) c.in_ok-bits.ensures.bits (subst (λ (os : List Order). HoldEach os a c.in_ok-bits.bits cs) c.as_slice.ensures.value c.in-Ok.ensures.issued),
    )

pub returns-clause-refused : goal.returns-clause-refused
returns-clause-refused c =
    refused_by c.args.orders.now c.args.algorithm.now c.args.signature.now c.in_ok-said.said.items c.as_slice.result.now (algorithm_plain c.in_ok-by.by) c.in_ok-bits.bits c.in-Err.error
    c.in_ok-said.ensures.said c.in_ok-by.ensures.spelled c.as_slice.ensures.value c.in_ok-bits.ensures.bits c.in_ok-bits.ensures.short c.in-Err.ensures.refused c.status_of.result c.status_of.ensures
