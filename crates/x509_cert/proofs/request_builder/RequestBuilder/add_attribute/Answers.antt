-- Goals of `request_builder::RequestBuilder::add_attribute` that the checker doesn't prove by
-- itself.
use Rattle.std.proofs.Common.{List, ap}
use Rattle.std.proofs.lemmas.Result.{err_from_is_err_and}
use Rattle.x509_cert_lists.specs.CertNames.Names.{PlainAttribute}
use Rattle.x509_cert_lists.specs.CertNames.Views.{attribute_plain}
use Rattle.x509_cert.specs.States.{RequestState, request_state}
use Rattle.x509_cert.proofs.RequestParts.{added_valid, not_placed, stands_for}
use Rattle.x509_cert.proofs.request_builder.RequestBuilder.add_attribute.Goals as goal

pub returns-in_err-insert-clause-refused : goal.returns-in_err-insert-clause-refused
returns-in_err-insert-clause-refused g c =
    let p = err_from_is_err_and c.from_residual-in_err-insert.result c.from_residual-in_err-insert.ensures.1 in
    rw (p.1, p.2, ← c.self.view_is)
    (not_placed attribute_plain _ _ c.in_ok-made.made c.in_err-insert.field-0.0 c.in_ok-made.ensures c.self.invariant (c.in_ok-_octets.ensures.valid c.in_range.ensures) c.in_err-insert.ensures.refused)

pub invariant_of-self-2 : goal.invariant_of-self-2
invariant_of-self-2 g c =
    let valid = c.in_ok-_octets.ensures.valid c.in_range.ensures in
    added_valid attribute_plain _ _ c.in_ok-made.made c.self.invariant valid (c.in_ok-insert.ensures.placed c.self.invariant valid)

pub returns-clause-added : goal.returns-clause-added
returns-clause-added g c =
    let view : RequestState = request_state c.self.inside in
    rw (← c.self.view_is) (
      attribute_plain c.in_ok-made.made,
      c.in_ok-made.ensures,
      ap (λ (xs : List PlainAttribute). record view { attributes = xs }) (c.in_ok-insert.ensures.placed c.self.invariant (c.in_ok-_octets.ensures.valid c.in_range.ensures)),
    )

pub returns-clause-once : goal.returns-clause-once
returns-clause-once g c a made =
    rw (← c.self.view_is) (stands_for _ _ a _ _ c.in_ok-made.ensures (c.in_ok-insert.ensures.once c.self.invariant (c.in_ok-_octets.ensures.valid c.in_range.ensures)) made)
