-- Goals of `whole::FromDer::from_der_partial` that the checker doesn't prove by itself.
use Rattle.std.proofs.Common.{Ok, arith}
use Rattle.der_core_values.specs.CoreOctets.Fronts.{read_front}
use Rattle.der_core_coding.proofs.Fronts.{front_spelled, front_again, gives_so}
use Rattle.der_core_coding.proofs.whole.FromDer.from_der_partial.Goals as goal

pub returns-clause-spelled : goal.returns-clause-spelled
returns-clause-spelled g c = λ apart. front_spelled g.Self.Shaped.shape (λ x. (g.Self.Shaped.plain x.0, x.1.now)) c.args.bytes.now c.read_front.result apart (λ i. omega (arith, c.type_inv.bytes i)) c.read_front.ensures

pub returns-clause-only : goal.returns-clause-only
returns-clause-only g c = λ v r element apart enough valid e short.
    gives_so (λ x. (g.Self.Shaped.plain x.0, x.1.now)) c.read_front.result (read_front g.Self.Shaped.shape c.args.bytes.now) (Ok (v, r)) (front_again g.Self.Shaped.shape v r c.args.bytes.now element apart enough valid e (omega (arith, short))) c.read_front.ensures
