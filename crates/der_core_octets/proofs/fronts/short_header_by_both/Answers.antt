-- Goals of `fronts::short_header_by_both` that the checker doesn't prove by itself.
use Rattle.std.proofs.Common.{drop}
use Rattle.der_core_head.specs.declared.encoding_rules.EncodingRules.TheVariants as encodings
use Rattle.der_core_head.proofs.BodyLaws.{head_ber_more}
use Rattle.der_core_octets.specs.Headers.{head_of}
use Rattle.der_core_octets.proofs.fronts.short_header_by_both.Goals as goal

-- A header that DER accepts is accepted under BER.
pub returns-clause-front : goal.returns-clause-front
returns-clause-front c encodings.Der = c.in_ok-front.ensures
returns-clause-front c encodings.Ber =
    let w = c.args.octets.now in
    let h = head_of c.in_ok-front.front.0 in
    (head_ber_more w h (drop c.in_ok-front.front.1 w) c.in_ok-front.ensures.0, c.in_ok-front.ensures.1)
