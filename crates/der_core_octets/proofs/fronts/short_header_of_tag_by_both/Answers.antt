-- Goals of `fronts::short_header_of_tag_by_both` that the checker doesn't prove by itself.
use Rattle.std.proofs.Common.{drop}
use Rattle.der_core_head.specs.declared.encoding_rules.EncodingRules.TheVariants as encodings
use Rattle.der_core_head.specs.Heads.{head_at}
use Rattle.der_core_head.specs.Bodies.{head_ber_at}
use Rattle.der_core_head.proofs.BodyLaws.{head_ber_more}
use Rattle.der_core_octets.specs.Headers.{head_of}
use Rattle.der_core_octets.proofs.GoingOn.{wanted_is}
use Rattle.der_core_octets.proofs.fronts.short_header_of_tag_by_both.Goals as goal

-- A header that DER accepts is accepted under BER.
pub returns-clause-front : goal.returns-clause-front
returns-clause-front c encodings.Der =
    let w = c.args.octets.now in
    let h = head_of c.in_ok-front.front.0 in
    (wanted_is c.args.tag head_at w h (drop c.in_ok-front.front.1 w) c.in_ok-front.ensures.front.0 c.in_ok-front.ensures.tag, c.in_ok-front.ensures.front.1)
returns-clause-front c encodings.Ber =
    let w = c.args.octets.now in
    let h = head_of c.in_ok-front.front.0 in
    let r = drop c.in_ok-front.front.1 w in
    (wanted_is c.args.tag head_ber_at w h r (head_ber_more w h r c.in_ok-front.ensures.front.0) c.in_ok-front.ensures.tag, c.in_ok-front.ensures.front.1)
