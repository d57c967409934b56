-- Goals of `heads::lone_length_of` that the checker doesn't prove by itself.
use Rattle.std.proofs.Common.{Ok, ap, ◌∙◌, arith}
use Rattle.der_core_head.specs.declared.length.Length.{Length}
use Rattle.der_core_octets.specs.LoneLengths.{lone_length_at}
use Rattle.der_core_octets.proofs.LongLengths.{lone_again, lone_spelled}
use Rattle.der_core_head.proofs.HeadLaws.{front_so}
use Rattle.der_core_octets.proofs.heads.lone_length_of.Goals as goal

pub returns-clause-spelled : goal.returns-clause-spelled
returns-clause-spelled c = lone_spelled c.args.octets.now c.lone_length_of.result (λ i. omega (arith, c.type_inv.octets i)) c.lone_length_of.ensures

pub returns-clause-only : goal.returns-clause-only
returns-clause-only c = λ n r fits e.
    front_so (λ (l : Length). l.value) c.args.octets.now c.lone_length_of.result lone_length_at (Ok (n, r)) (ap lone_length_at e ∙ lone_again n r (omega (arith, fits))) c.lone_length_of.ensures
