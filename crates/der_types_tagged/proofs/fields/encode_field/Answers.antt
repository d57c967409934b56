-- Goals of `fields::encode_field` that the checker doesn't prove by itself.
use Rattle.std.proofs.Common.{◌≡◌, ℕ, ◌/◌, true, ap, subst, ◌∙◌}
use Rattle.der_core.specs.TagTypes.Tag.{Tag}
use Rattle.der_core.specs.TagModeTypes.TagMode.{TagMode}
use Rattle.der_core.specs.TagModeTypes.TagMode.TheVariants as modes
use Rattle.der_core.specs.Tags.{class_tag}
use Rattle.der_core.specs.Shapes.{nested, octets_of, only, tagged}
use Rattle.der_core.specs.Writing.{Writes, write}
use Rattle.der_core.specs.Outputs.{AddsFront}
use Rattle.der_types_tagged.specs.Fields.{field_tag}
use Rattle.der_types_tagged.proofs.fields.encode_field.Goals as goal

explicit_tag : (class n : ℕ) (mode : TagMode) (own t : Tag) → t ≡ field_tag class mode n own → mode ≡ modes.Explicit → t ≡ class_tag (class / 64) true n
explicit_tag class n mode own t e is = e ∙ ap (λ m. field_tag class m n own) is

pub returns-in-Explicit-clause-explicit : goal.returns-in-Explicit-clause-explicit
returns-in-Explicit-clause-explicit g c = λ is.
    let P : Tag → Type 0 = λ t. Writes g.W.Writer.takes_memory (g.W.Writer.out c.args.writer.now) (g.W.Writer.out c.encode_tagged.new.writer) c.encode_tagged.result
    (write (tagged t (nested (only (tagged g.T.FixedTag.fixed_tag g.T.ShapedValue.content)))) (g.T.ShapedValue.value_written c.args.value.now)) in
    subst P (explicit_tag c.args.class c.args.number.value c.args.mode c.tag.result c.tag_of_field-tag.result c.tag_of_field-tag.ensures is) c.encode_tagged.ensures.exact

pub returns-in-Explicit-clause-front_explicit : goal.returns-in-Explicit-clause-front_explicit
returns-in-Explicit-clause-front_explicit g c = λ is.
    let P : Tag → Type 0 = λ t. AddsFront (octets_of (tagged t (nested (only (tagged g.T.FixedTag.fixed_tag g.T.ShapedValue.content)))) (g.T.ShapedValue.value_written c.args.value.now))
    (g.W.Writer.out c.args.writer.now) (g.W.Writer.out c.encode_tagged.new.writer) in
    subst P (explicit_tag c.args.class c.args.number.value c.args.mode c.tag.result c.tag_of_field-tag.result c.tag_of_field-tag.ensures is) c.encode_tagged.ensures.front
