-- Goals of `kinds::is_small` that the checker doesn't prove by itself.
use Rattle.std.proofs.Common.{nat_eq, ap, ◌∙◌}
use Rattle.der_core_coding.proofs.Defaults.{positive_small, negative_small, small_content}
use Rattle.der_core_coding.proofs.kinds.is_small.Goals as goal

pub returns-then-not-negative-clause-octets : goal.returns-then-not-negative-clause-octets
returns-then-not-negative-clause-octets g c =
    ap (λ k. nat_eq c.sign_and_bits-negative.result.1 k) c.from.ensures
    ∙ positive_small g.T.Integer.numbers (g.T.Integer.number c.args.value.now) c.sign_and_bits-negative.result.0 c.sign_and_bits-negative.result.1 c.args.small c.requires c.sign_and_bits-negative.ensures.value c.if-not-negative.true

pub returns-then-not-negative-clause-small : goal.returns-then-not-negative-clause-small
returns-then-not-negative-clause-small g c = small_content g.T.Integer.numbers (g.T.Integer.number c.args.value.now) c.args.small c.requires

pub returns-else-not-negative-clause-octets : goal.returns-else-not-negative-clause-octets
returns-else-not-negative-clause-octets g c =
    negative_small g.T.Integer.numbers (g.T.Integer.number c.args.value.now) c.sign_and_bits-negative.result.0 c.sign_and_bits-negative.result.1 c.args.small c.requires c.sign_and_bits-negative.ensures.value c.if-not-negative.false

pub returns-else-not-negative-clause-small : goal.returns-else-not-negative-clause-small
returns-else-not-negative-clause-small g c = small_content g.T.Integer.numbers (g.T.Integer.number c.args.value.now) c.args.small c.requires
