-- Goals of `optional_set::SetMembersDefaultValue::is_default`: only a set without members has the
-- encoding of the default.
use Rattle.std.proofs.Common.{rules, arith, subst}
use Rattle.der_core.specs.TagTypes.Tag.TheVariants as tags
use Rattle.der_core.specs.Tags.{IsTag, implicit_tag}
use Rattle.der_types_more.proofs.OptionalSets.{default_same, default_valid}
use Rattle.der_types_more.proofs.optional_set.SetMembersDefaultValue.is_default.Goals as goal

pub returns-clause-value : goal.returns-clause-value
returns-clause-value g c =
    default_same (implicit_tag g.row.N tags.Set) g.T.Shaped.shape g.T.Shaped.plain c.args.self.now.0.now c.is_empty.result g.met.T.Element.element (search rules)

pub returns-clause-valid : goal.returns-clause-valid
returns-clause-valid g c =
    let tag : IsTag (implicit_tag g.row.N tags.Set) = subst IsTag c.tag.ensures (omega (arith, c.number_of-number.ensures, c.number_of-number.type_inv)) in
    default_valid (implicit_tag g.row.N tags.Set) g.T.Shaped.shape g.T.Shaped.plain c.args.self.now.0.now c.is_empty.result tag (search rules)
