-- Goals of `laws::equal_values_alone` that the checker doesn't prove by itself.
use Rattle.std.proofs.Common.{[], ◌++◌, ap, ◌∙◌, sym}
use Rattle.der_core_coding.specs.CoreHead.Shapes.{octets_of}
use Rattle.der_core_coding.proofs.CoreHead.OneEncoding.{one_value}
use Rattle.der_core.specs.Orders.{encodings_cmp}
use Rattle.der_core.proofs.OrderLaws.{octets_cmp-self, octets_cmp-equal}
use Rattle.der_core.proofs.laws.equal_values_alone.Goals as goal

pub returns : goal.returns
returns c = λ s v w e a p q. (
  λ same. (one_value s v w [] [] e a p q (ap (λ x. x ++ []) (octets_cmp-equal (octets_of s v) (octets_of s w) same))).0,
  λ same. ap (encodings_cmp s v) (sym same) ∙ octets_cmp-self (octets_of s v),
)
