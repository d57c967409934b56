-- Goals of `indefinite::header_ber_of` that the checker doesn't prove by itself.
use Rattle.std.proofs.Common.{arith, sym, ◌∙◌, drop}
use Rattle.der_core_head.proofs.BodyLaws.{head_ber_again, head_ber_sound, head_ber_alone}
use Rattle.der_core_octets.specs.Headers.{head_of}
use Rattle.der_core_octets.proofs.indefinite.header_ber_of.Goals as goal

pub returns-in_err-header-clause-only : goal.returns-in_err-header-clause-only
returns-in_err-header-clause-only c = λ h r spelled. absurd (cc (c.in_err-header.ensures, head_ber_again h r c.args.octets.now spelled))

pub returns-clause-spelled : goal.returns-clause-spelled
returns-clause-spelled c =
    head_ber_sound c.args.octets.now (head_of c.in_ok-header.header) (drop c.in_ok-header.count c.args.octets.now) (λ i. omega (arith, c.type_inv.octets i)) c.in_ok-header.ensures.0

pub returns-clause-only : goal.returns-clause-only
returns-clause-only c = λ h r spelled. (sym (head_ber_again h r c.args.octets.now spelled) ∙ c.in_ok-header.ensures.0, c.in_ok-header.ensures.1)

pub returns-clause-alone : goal.returns-clause-alone
returns-clause-alone c = λ more.
    head_ber_alone c.args.octets.now (head_of c.in_ok-header.header) c.in_ok-header.count more (λ i. omega (arith, c.type_inv.octets i)) c.in_ok-header.ensures.1 c.in_ok-header.ensures.0
