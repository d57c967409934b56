-- Goals of `heads::header_of` that the checker doesn't prove by itself.
use Rattle.std.proofs.Common.{Ok, ap, ◌∙◌, arith}
use Rattle.der_core_head.specs.Heads.{head_at}
use Rattle.der_core_head.proofs.HeadLaws.{head_again, front_so}
use Rattle.der_core_octets.specs.Headers.{head_of}
use Rattle.der_core_octets.proofs.LongLengths.{head_spelled}
use Rattle.der_core_octets.proofs.heads.header_of.Goals as goal

pub returns-clause-spelled : goal.returns-clause-spelled
returns-clause-spelled c = head_spelled c.args.octets.now c.header_of.result (λ i. omega (arith, c.type_inv.octets i)) c.header_of.ensures

pub returns-clause-only : goal.returns-clause-only
returns-clause-only c = λ t n r is fits e.
    front_so head_of c.args.octets.now c.header_of.result head_at (Ok (record { tag = t; len = n }, r)) (ap head_at e ∙ head_again t n r is (omega (arith, fits))) c.header_of.ensures
