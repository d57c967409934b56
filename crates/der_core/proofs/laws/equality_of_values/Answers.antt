-- Goals of `laws::equality_of_values` that the checker doesn't prove by itself.
use Rattle.std.proofs.Common.{List, ℕ, [], ◌++◌, ap}
use Rattle.der_core_coding.proofs.CoreHead.OneEncoding.{one_value}
use Rattle.der_core.proofs.laws.equality_of_values.Goals as goal

pub returns : goal.returns
returns g c = λ h x y v w. (
  λ same. (one_value g.T.Shaped.shape (g.T.Shaped.plain x) (g.T.Shaped.plain y) [] [] g.met.T.Element.element g.met.T.Member.apart v w (ap (λ (o : List ℕ). o ++ []) (h.encoding x y same))).0,
  h.itself x y,
)
