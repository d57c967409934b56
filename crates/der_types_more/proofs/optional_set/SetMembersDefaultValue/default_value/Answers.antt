-- Goals of `optional_set::SetMembersDefaultValue::default_value`: the encoding of a set without members
-- decodes to it.
use Rattle.std.proofs.Common.{arith, subst}
use Rattle.der_core.specs.TagTypes.Tag.TheVariants as tags
use Rattle.der_core.specs.Tags.{IsTag, implicit_tag}
use Rattle.der_types_more.proofs.OptionalSets.{default_read}
use Rattle.der_types_more.proofs.optional_set.SetMembersDefaultValue.default_value.Goals as goal

pub returns : goal.returns
returns g c =
    let tag : IsTag (implicit_tag g.row.N tags.Set) = subst IsTag c.tag.ensures (omega (arith, c.number_of-number.ensures, c.number_of-number.type_inv)) in
    default_read (implicit_tag g.row.N tags.Set) g.T.Shaped.shape tag
