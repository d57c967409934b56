-- Goals of `indefinite::indefinite_length_of` that the checker doesn't prove by itself.
use Rattle.std.proofs.Common.{arith, ap, sym, ◌∙◌}
use Rattle.der_core_head.specs.Bodies.{body_len_at}
use Rattle.der_core_head.proofs.BodyLaws.{body_len_again, body_len-body, body_len-ge, body_len_alone}
use Rattle.der_core_octets.proofs.indefinite.indefinite_length_of.Goals as goal

pub returns-in_err-length-clause-counted : goal.returns-in_err-length-clause-counted
returns-in_err-length-clause-counted c = λ b more body fits e. absurd (cc (c.in_err-length.ensures, body_len_again b more body fits))

pub returns-clause-body : goal.returns-clause-body
returns-clause-body c = body_len-body c.args.octets.now c.in_ok-length.length.value (λ i. omega (arith, c.type_inv.octets i)) c.in_ok-length.ensures

pub returns-clause-within : goal.returns-clause-within
returns-clause-within c = (body_len-ge c.args.octets.now c.in_ok-length.length.value (λ i. omega (arith, c.type_inv.octets i)) c.in_ok-length.ensures).1

pub returns-clause-least : goal.returns-clause-least
returns-clause-least c = (body_len-ge c.args.octets.now c.in_ok-length.length.value (λ i. omega (arith, c.type_inv.octets i)) c.in_ok-length.ensures).0

pub returns-clause-counted : goal.returns-clause-counted
returns-clause-counted c = λ b more body fits e. sym (ap body_len_at e ∙ body_len_again b more body fits) ∙ c.in_ok-length.ensures

pub returns-clause-alone : goal.returns-clause-alone
returns-clause-alone c = λ more. body_len_alone c.args.octets.now c.in_ok-length.length.value more (λ i. omega (arith, c.type_inv.octets i)) c.in_ok-length.ensures
