-- Goals of `whole::FromDer::from_der` that the checker doesn't prove by itself.
use Rattle.std.proofs.Common.{arith}
use Rattle.der_core_values.specs.CoreHead.Shapes.{Value, Spells}
use Rattle.der_core_values.proofs.CoreHead.OneEncoding.{is_spelled, is_read}
use Rattle.der_core_values.proofs.CoreHead.Results.{memory_alone}
use Rattle.der_core_coding.proofs.whole.FromDer.from_der.Goals as goal

pub returns-clause-spelled : goal.returns-clause-spelled
returns-clause-spelled g c = λ apart. is_spelled g.Self.Shaped.shape g.Self.Shaped.plain c.args.bytes.now c.read_whole.result apart (λ i. omega (arith, c.type_inv.bytes i)) c.read_whole.ensures

pub returns-clause-only : goal.returns-clause-only
returns-clause-only g c = λ v apart enough spells. is_read g.Self.Shaped.shape g.Self.Shaped.plain v c.args.bytes.now c.read_whole.result apart enough spells c.read_whole.ensures

pub returns-clause-refused : goal.returns-clause-refused
returns-clause-refused g c = λ apart enough.
    memory_alone g.Self.Shaped.plain (λ (v : Value g.Self.Shaped.shape). Spells g.Self.Shaped.shape v c.args.bytes.now) c.read_whole.result (λ v spells. is_read g.Self.Shaped.shape g.Self.Shaped.plain v c.args.bytes.now c.read_whole.result apart enough spells c.read_whole.ensures)
