-- Goals of `kinds::AnyDefaultValue::default_value` that the checker doesn't prove by itself.
use Rattle.std.proofs.Common.{arith, subst}
use Rattle.der_core_values.specs.CoreHead.Tags.{IsTag}
use Rattle.der_core_coding.proofs.Defaults.{tagged_read}
use Rattle.der_core_coding.proofs.kinds.AnyDefaultValue.default_value.Goals as goal

pub returns : goal.returns
returns g c =
    let tag : IsTag g.T.FixedTag.fixed_tag = subst IsTag c.tag.ensures (omega (arith, c.number_of-number.ensures, c.number_of-number.type_inv)) in
    tagged_read g.T.FixedTag.fixed_tag g.T.ShapedValue.content (g.T.ShapedValue.value_plain c.default_content.result) g.T.DefaultContent.content_octets
    tag g.met.T.DefaultContent.few g.met.T.ApartValue.apart_value g.met.T.DefaultContent.enough c.default_content.ensures.octets c.default_content.ensures.valid
