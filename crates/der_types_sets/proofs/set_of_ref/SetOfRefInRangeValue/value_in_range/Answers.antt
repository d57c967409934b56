-- Goals of `set_of_ref::SetOfRefInRangeValue::value_in_range` that the checker doesn't prove by
-- itself.
use Rattle.der_types_sets.proofs.LentOrders.{lent_in_range}
use Rattle.der_types_sets.proofs.set_of_ref.SetOfRefInRangeValue.value_in_range.Goals as goal

pub returns : goal.returns
returns g c = rw (← c.self.view_is) (lent_in_range g.T.Shaped.shape g.T.Shaped.written _ c.self.invariant c.list_in_range.ensures)
