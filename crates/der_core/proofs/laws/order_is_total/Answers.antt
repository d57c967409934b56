-- Goals of `laws::order_is_total` that the checker doesn't prove by itself.
use Rattle.std.proofs.Common.{ap, ◌∙◌, sym}
use Rattle.std.proofs.lemmas.Cmp.{nat_list_cmp_total}
use Rattle.der_core.specs.Orders.{octets_cmp}
use Rattle.der_core.proofs.OrderLaws.{octets_cmp-self, octets_cmp-equal}
use Rattle.der_core.proofs.laws.order_is_total.Goals as goal

pub returns : goal.returns
returns c = record {
  equal = λ a b. (octets_cmp-equal a b, λ e. ap (octets_cmp a) (sym e) ∙ octets_cmp-self a);
  reversed = nat_list_cmp_total.antisymm;
  goes_on = nat_list_cmp_total.trans;
  same = nat_list_cmp_total.congr;
}
