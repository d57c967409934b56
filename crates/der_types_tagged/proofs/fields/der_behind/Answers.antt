-- Goals of `fields::der_behind` that the checker doesn't prove by itself.
use Rattle.der_core.specs.Shapes.{tagged}
use Rattle.der_core.proofs.Written.{is_written}
use Rattle.der_types_tagged.proofs.fields.der_behind.Goals as goal

pub returns-clause-spelled : goal.returns-clause-spelled
returns-clause-spelled g c = λ valid.
    is_written (tagged c.args.tag g.T.ShapedValue.content) (g.T.ShapedValue.value_written c.args.value.now) (λ v. v.items) c.written_behind.result valid c.written_behind.ensures
