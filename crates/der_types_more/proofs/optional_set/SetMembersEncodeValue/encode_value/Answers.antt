-- Goals of `optional_set::SetMembersEncodeValue::encode_value` that the checker doesn't
-- prove by itself.
use Rattle.der_core.specs.Grammar.{plain_list}
use Rattle.der_core.proofs.IterOrders.{list_fits}
use Rattle.der_types_more.proofs.optional_set.SetMembersEncodeValue.encode_value.Goals as goal

pub check_in_order-requires : goal.check_in_order-requires
check_in_order-requires g c =
    (list_fits g.T.Shaped.shape (plain_list g.T.Shaped.written c.args.self.now.0.now) _ _ c.in_ok-encode_members.ensures.exact)
