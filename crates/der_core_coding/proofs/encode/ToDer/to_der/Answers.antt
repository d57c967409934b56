-- Goals of `encode::ToDer::to_der` that the checker doesn't prove by itself.
use Rattle.der_core_values.proofs.CoreHead.Written.{is_written, ok_octets}
use Rattle.der_core_coding.proofs.Fronts.{ok_valid}
use Rattle.der_core_coding.proofs.encode.ToDer.to_der.Goals as goal

pub returns-clause-octets : goal.returns-clause-octets
returns-clause-octets g c = ok_octets g.Self.Shaped.shape (g.Self.Shaped.written c.args.self.now) (λ v. v.items) c.encoded.result c.encoded.ensures

pub returns-clause-spelled : goal.returns-clause-spelled
returns-clause-spelled g c = λ valid. is_written g.Self.Shaped.shape (g.Self.Shaped.written c.args.self.now) (λ v. v.items) c.encoded.result valid c.encoded.ensures

pub returns-clause-valid : goal.returns-clause-valid
returns-clause-valid g c = ok_valid g.Self.Shaped.shape (g.Self.Shaped.written c.args.self.now) _ c.encoded.result c.encoded.ensures
