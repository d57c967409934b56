-- Goals of `optional_set::OptionalSetDefaultValue::is_default`: the set has the members that
-- `members_of` returns.
use Rattle.std.proofs.Common.{List, [], bytes_eq, ap, ◌∙◌, subst}
use Rattle.der_core.specs.Defaults.{short_tlv}
use Rattle.der_core.specs.Shapes.{Value, IsValid, octets_of, tagged, nested, rising}
use Rattle.der_core.specs.TagTypes.Tag.TheVariants as tags
use Rattle.der_core.specs.Tags.{implicit_tag}
use Rattle.der_types_more.proofs.optional_set.OptionalSetDefaultValue.is_default.Goals as goal

pub returns-clause-value : goal.returns-clause-value
returns-clause-value g c =
    c.is_default.ensures.value
    ∙ ap (λ (v : List (Value g.T.Shaped.shape)). bytes_eq (octets_of (tagged (implicit_tag g.row.N tags.Set) (nested (rising g.T.Shaped.shape))) v) (short_tlv (implicit_tag g.row.N tags.Set) [])) c.members_of.ensures

pub returns-clause-valid : goal.returns-clause-valid
returns-clause-valid g c = λ h.
    subst (λ (v : List (Value g.T.Shaped.shape)). IsValid (tagged (implicit_tag g.row.N tags.Set) (nested (rising g.T.Shaped.shape))) v) c.members_of.ensures (c.is_default.ensures.valid h)
