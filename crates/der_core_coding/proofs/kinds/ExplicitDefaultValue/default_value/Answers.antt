-- Goals of `kinds::ExplicitDefaultValue::default_value` that the checker doesn't prove by itself.
use Rattle.std.proofs.Common.{true, arith, subst}
use Rattle.der_core_values.specs.CoreHead.Tags.{IsTag, context}
use Rattle.der_core_coding.proofs.Defaults.{explicit_read}
use Rattle.der_core_coding.proofs.kinds.ExplicitDefaultValue.default_value.Goals as goal

pub returns : goal.returns
returns g c =
    let outer : IsTag (context true g.row.N) = subst IsTag c.tag.ensures (omega (arith, c.number_of-outer.ensures, c.number_of-outer.type_inv)) in
    let tag : IsTag g.T.FixedTag.fixed_tag = subst IsTag c.tag-2.ensures (omega (arith, c.number_of-number.ensures, c.number_of-number.type_inv)) in
    explicit_read g.row.N g.T.FixedTag.fixed_tag g.T.ShapedValue.content (g.T.ShapedValue.value_plain c.default_content.result) g.T.DefaultContent.content_octets
    outer tag g.met.T.DefaultContent.few g.met.T.ApartValue.apart_value g.met.T.DefaultContent.enough c.default_content.ensures.octets c.default_content.ensures.valid
