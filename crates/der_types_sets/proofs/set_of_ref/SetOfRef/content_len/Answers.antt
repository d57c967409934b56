-- Goals of `set_of_ref::SetOfRef::content_len` that the checker doesn't prove by itself.
use Rattle.std.proofs.Common.{sym, ◌∙◌, eqb-true}
use Rattle.der_types_sets.proofs.LentOrders.{some_at, values_sized, octets_sized}
use Rattle.der_types_sets.proofs.set_of_ref.SetOfRef.content_len.Goals as goal

pub returns-then-is_empty : goal.returns-then-is_empty
returns-then-is_empty g c = rw (← c.self.view_is) (values_sized g.T.Shaped.shape g.T.Shaped.written _ (λ l. l.value) c.members_len.result c.self.invariant (eqb-true _ 0 (sym c.is_empty.ensures ∙ c.if-is_empty.true)) c.members_len.ensures)

pub returns : goal.returns
returns g c = rw (← c.self.view_is) (octets_sized g.T.Shaped.shape g.T.Shaped.written _ c.self.invariant (some_at _ (sym c.is_empty.ensures ∙ c.if-is_empty.false)))
