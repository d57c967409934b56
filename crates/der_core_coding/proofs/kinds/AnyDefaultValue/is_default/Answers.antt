-- Goals of `kinds::AnyDefaultValue::is_default` that the checker doesn't prove by itself.
use Rattle.std.proofs.Common.{arith, subst}
use Rattle.der_core_values.specs.CoreHead.Tags.{IsTag}
use Rattle.der_core_coding.proofs.Defaults.{tagged_same, tagged_valid}
use Rattle.der_core_coding.proofs.kinds.AnyDefaultValue.is_default.Goals as goal

pub returns-clause-value : goal.returns-clause-value
returns-clause-value g c =
    tagged_same g.T.FixedTag.fixed_tag g.T.ShapedValue.content (g.T.ShapedValue.value_plain c.args.self.now) g.T.DefaultContent.content_octets c.is_default_content.result
    g.met.T.DefaultContent.few c.is_default_content.ensures.value

pub returns-clause-valid : goal.returns-clause-valid
returns-clause-valid g c =
    let tag : IsTag g.T.FixedTag.fixed_tag = subst IsTag c.tag.ensures (omega (arith, c.number_of-number.ensures, c.number_of-number.type_inv)) in
    tagged_valid g.T.FixedTag.fixed_tag g.T.ShapedValue.content (g.T.ShapedValue.value_plain c.args.self.now) g.T.DefaultContent.content_octets c.is_default_content.result
    tag g.met.T.DefaultContent.few c.is_default_content.ensures.value c.is_default_content.ensures.valid
