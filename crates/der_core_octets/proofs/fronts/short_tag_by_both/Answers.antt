-- Goals of `fronts::short_tag_by_both` that the checker doesn't prove by itself.
use Rattle.std.proofs.Common.{ap, drop}
use Rattle.der_core_head.specs.declared.encoding_rules.EncodingRules.TheVariants as encodings
use Rattle.der_core_head.proofs.BodyLaws.{tag_ber_more}
use Rattle.der_core_head.specs.Fronts.{alone}
use Rattle.der_core_octets.proofs.fronts.short_tag_by_both.Goals as goal

-- A tag that DER accepts is accepted under BER.
pub returns : goal.returns
returns c encodings.Der = ap alone c.in_ok-tag.ensures
returns c encodings.Ber =
    let w = c.args.octets.now in
    ap alone (tag_ber_more w c.in_ok-tag.tag (drop 1 w) c.in_ok-tag.ensures)
