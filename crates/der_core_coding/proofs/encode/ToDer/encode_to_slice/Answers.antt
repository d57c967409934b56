-- Goals of `encode::ToDer::encode_to_slice` that the checker doesn't prove by itself.
use Rattle.std.proofs.Common.{Bor, ℕ, List, length}
use Rattle.der_core_coding.proofs.Fronts.{filled_spelled, filled_octets, filled_in_range}
use Rattle.der_core_coding.proofs.encode.ToDer.encode_to_slice.Goals as goal

pub returns-clause-octets : goal.returns-clause-octets
returns-clause-octets g c = filled_octets g.Self.Shaped.shape (g.Self.Shaped.written c.args.self.now) (length c.args.bytes.now) (λ (o : Bor (List ℕ)). o.now) c.fill.result c.fill.ensures

pub returns-clause-spelled : goal.returns-clause-spelled
returns-clause-spelled g c = λ valid room. filled_spelled g.Self.Shaped.shape (g.Self.Shaped.written c.args.self.now) (length c.args.bytes.now) (λ (o : Bor (List ℕ)). o.now) c.fill.result c.fill.ensures valid room

pub returns-clause-valid : goal.returns-clause-valid
returns-clause-valid g c = filled_in_range g.Self.Shaped.shape (g.Self.Shaped.written c.args.self.now) (length c.args.bytes.now) (λ (o : Bor (List ℕ)). o.now) c.fill.result c.fill.ensures
