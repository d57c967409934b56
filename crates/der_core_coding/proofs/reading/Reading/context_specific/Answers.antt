-- Goals of `reading::Reading::context_specific` that the checker doesn't prove by itself.
use Rattle.std.proofs.Common.{◌≡◌, ap, subst, ◌∙◌}
use Rattle.der_core_values.specs.CoreHead.declared.tag.Tag.{Tag}
use Rattle.der_core_values.specs.CoreHead.Tags.{context, is_constructed, implicit_tag}
use Rattle.der_core_values.specs.CoreHead.Shapes.{tagged, optional}
use Rattle.der_core_values.specs.CoreHead.Grammar.{plain_option}
use Rattle.der_core_values.specs.CoreHead.Reading.{Reads, read_at}
use Rattle.der_core_coding.proofs.reading.Reading.context_specific.Goals as goal

pub returns-in-Implicit-clause-implicit : goal.returns-in-Implicit-clause-implicit
returns-in-Implicit-clause-implicit g c = λ _.
    let old = g.Self.Reader.state c.args.self.now in
    let n = c.args.tag_number.value in
    let own : context c.is_constructed-constructed.result n ≡ implicit_tag n g.T.FixedTag.fixed_tag =
    ap (λ b. context b n) (c.is_constructed-constructed.ensures ∙ ap is_constructed c.tag.ensures) in
    let P : Tag → Type 0 = λ t. Reads (plain_option g.T.ShapedValue.value_plain) old (g.Self.Reader.state c.optional_implicit.new.reader) c.optional_implicit.result (read_at old (optional (tagged t g.T.ShapedValue.content))) in
    subst P own c.optional_implicit.ensures
