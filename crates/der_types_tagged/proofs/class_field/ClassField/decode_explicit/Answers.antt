-- Goals of `class_field::ClassField::decode_explicit` that the checker doesn't prove by itself.
use Rattle.std.proofs.Common.{Err, subst}
use Rattle.std.proofs.lemmas.Result.{err_from_is_err_and}
use Rattle.der_core.specs.TagTypes.Tag.{Tag}
use Rattle.der_core.specs.Shapes.{nested, only, optional, tagged}
use Rattle.der_core.specs.Grammar.{plain_option}
use Rattle.der_core.specs.Reading.{Reads, read_at}
use Rattle.der_types_tagged.proofs.class_field.ClassField.decode_explicit.Goals as goal

pub returns-in_err-value-clause-reads : goal.returns-in_err-value-clause-reads
returns-in_err-value-clause-reads g c =
    let p = err_from_is_err_and c.from_residual.result c.from_residual.ensures.1 in
    let old = g.R.Reader.state c.args.reader.now in
    let P : Tag → Type 0 = λ t. Reads (plain_option g.T.Shaped.plain) old (g.R.Reader.state c.optional_explicit.new.reader) (Err c.in_err-value.field-0.0)
    (read_at old (optional (tagged t (nested (only g.T.Shaped.shape))))) in
    rw (p.1, p.2) (subst P c.tag_of_class-tag.ensures c.in_err-value.ensures)
