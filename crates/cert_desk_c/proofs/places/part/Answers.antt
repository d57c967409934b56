-- Goals of `places::part` that the checker doesn't prove by itself.
use Rattle.std.proofs.Common.{ℕ, List, ◌++◌, length, ap, ◌∙◌, arith, length-append}
use Rattle.cert_desk_c.proofs.places.part.Goals as goal

pub returns : goal.returns
returns c = λ before these p q. (
  before,
  c.args.to.now,
  p ∙ ap (λ (w : List ℕ). before ++ w) q,
  omega (arith, ap length p, length-append before c.args.from.now),
  omega (arith, ap length q, length-append these c.args.to.now),
)
