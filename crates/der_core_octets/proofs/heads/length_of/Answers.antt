-- Goals of `heads::length_of` that the checker doesn't prove by itself.
use Rattle.std.proofs.Common.{Ok, ap, ◌∙◌, arith}
use Rattle.der_core_head.specs.declared.length.Length.{Length}
use Rattle.der_core_head.specs.Heads.{length_at}
use Rattle.der_core_head.proofs.HeadLaws.{length_again, front_so}
use Rattle.der_core_octets.proofs.LongLengths.{length_spelled}
use Rattle.der_core_octets.proofs.heads.length_of.Goals as goal

pub returns-clause-spelled : goal.returns-clause-spelled
returns-clause-spelled c = length_spelled c.args.tag c.args.octets.now c.length_of.result (λ i. omega (arith, c.type_inv.octets i)) c.length_of.ensures

pub returns-clause-only : goal.returns-clause-only
returns-clause-only c = λ n r fits e.
    front_so (λ (l : Length). l.value) c.args.octets.now c.length_of.result (length_at c.args.tag) (Ok (n, r)) (ap (length_at c.args.tag) e ∙ length_again c.args.tag n r (omega (arith, fits))) c.length_of.ensures
