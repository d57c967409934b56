-- Goals of `set_of_ref::SetOfRefEncodeValue::encode_value` that the checker doesn't prove by
-- itself.
use Rattle.std.proofs.Common.{sym, ◌∙◌, eqb-true}
use Rattle.der_core.proofs.Added.{write_adds}
use Rattle.der_types_sets.proofs.LentOrders.{some_at, values_written, octets_lent, octets_written}
use Rattle.der_types_sets.proofs.set_of_ref.SetOfRefEncodeValue.encode_value.Goals as goal

pub returns-then-is_empty-clause-exact : goal.returns-then-is_empty-clause-exact
returns-then-is_empty-clause-exact g c =
    rw (← c.self.view_is) (values_written g.W.Writer.takes_memory g.T.Shaped.shape g.T.Shaped.written _ (g.W.Writer.out c.args.writer.now) (g.W.Writer.out c.encode_members.new.writer) c.encode_members.result c.self.invariant (eqb-true _ 0 (sym c.is_empty.ensures ∙ c.if-is_empty.true)) c.list_in_range.ensures c.encode_members.ensures.exact)

pub returns-clause-exact : goal.returns-clause-exact
returns-clause-exact g c =
    rw (← c.self.view_is) (octets_written g.W.Writer.takes_memory g.T.Shaped.shape g.T.Shaped.written _ (g.W.Writer.out c.args.writer.now) (g.W.Writer.out c.write.new.self) c.write.result c.self.invariant (some_at _ (sym c.is_empty.ensures ∙ c.if-is_empty.false)) c.write.ensures.exact)

pub returns-clause-front : goal.returns-clause-front
returns-clause-front g c =
    rw (← c.self.view_is) (write_adds _ _ _ _ _ _ c.write.ensures.exact c.write.ensures.refused (octets_lent g.T.Shaped.shape g.T.Shaped.written _ c.self.invariant (some_at _ (sym c.is_empty.ensures ∙ c.if-is_empty.false))))
