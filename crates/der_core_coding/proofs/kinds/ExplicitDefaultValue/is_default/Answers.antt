-- Goals of `kinds::ExplicitDefaultValue::is_default` that the checker doesn't prove by itself.
use Rattle.std.proofs.Common.{true, arith, subst}
use Rattle.der_core_values.specs.CoreHead.Tags.{IsTag, context}
use Rattle.der_core_coding.proofs.Defaults.{explicit_same, explicit_valid}
use Rattle.der_core_coding.proofs.kinds.ExplicitDefaultValue.is_default.Goals as goal

pub returns-clause-value : goal.returns-clause-value
returns-clause-value g c =
    let tag : IsTag g.T.FixedTag.fixed_tag = subst IsTag c.tag-2.ensures (omega (arith, c.number_of-number.ensures, c.number_of-number.type_inv)) in
    explicit_same g.row.N g.T.FixedTag.fixed_tag g.T.ShapedValue.content (g.T.ShapedValue.value_plain c.args.self.now.value) g.T.DefaultContent.content_octets c.is_default_content.result
    tag g.met.T.DefaultContent.few c.is_default_content.ensures.value

pub returns-clause-valid : goal.returns-clause-valid
returns-clause-valid g c =
    let outer : IsTag (context true g.row.N) = subst IsTag c.tag.ensures (omega (arith, c.number_of-outer.ensures, c.number_of-outer.type_inv)) in
    let tag : IsTag g.T.FixedTag.fixed_tag = subst IsTag c.tag-2.ensures (omega (arith, c.number_of-number.ensures, c.number_of-number.type_inv)) in
    explicit_valid g.row.N g.T.FixedTag.fixed_tag g.T.ShapedValue.content (g.T.ShapedValue.value_plain c.args.self.now.value) g.T.DefaultContent.content_octets c.is_default_content.result
    outer tag g.met.T.DefaultContent.few c.is_default_content.ensures.value c.is_default_content.ensures.valid
