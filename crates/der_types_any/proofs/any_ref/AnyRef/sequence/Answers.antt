-- Goals of `any_ref::AnyRef::sequence` that the checker doesn't prove by itself.
use Rattle.std.proofs.Common.{◌≡◌, ◌∙◌, true, ap, sym, rules}
use Rattle.std.proofs.lemmas.Result.{err_from_is_err_and}
use Rattle.der_types_text.specs.Der.EncodingRulesTypes.EncodingRules.TheVariants as encodings
use Rattle.der_types_text.specs.Der.TagTypes.Tag.TheVariants.{Sequence}
use Rattle.der_types_text.specs.Der.Tags.{same_tag}
use Rattle.der_types_text.specs.Der.Shapes.{nested}
use Rattle.der_types_text.specs.Der.Reading.{State}
use Rattle.der_types_any.specs.Anys.{any_lent}
use Rattle.der_types_any.proofs.AnyLaws.{as_other, read_ok, read_err}
use Rattle.der_types_any.proofs.any_ref.AnyRef.sequence.Goals as goal

pub returns-then-not-is_same_tag-clause-reads : goal.returns-then-not-is_same_tag-clause-reads
returns-then-not-is_same_tag-clause-reads g c = λ b view calls memory.
    rw (as_other encodings.Der Sequence (nested b) (any_lent c.args.self.now) (sym c.is_same_tag.ensures ∙ c.if-not-is_same_tag.true)) (search rules)

pub returns-in_err-value-clause-reads : goal.returns-in_err-value-clause-reads
returns-in_err-value-clause-reads g c = λ b view calls.
    let reader = c.in_ok-reader.ensures.ok.1 in
    let same : same_tag c.args.self.now.tag Sequence ≡ true = sym c.is_same_tag.ensures ∙ c.if-not-is_same_tag.false in
    let p = err_from_is_err_and c.from_residual-in_err-value.result c.from_residual-in_err-value.ensures.1 in
    rw (p.1, p.2)
    (read_err encodings.Der Sequence (nested b) (any_lent c.args.self.now) _ c.in_ok-reader.reader.source.encoding c.header.result.tag c.header.result.length.value c.in_ok-reader.reader.room c.in_ok-reader.reader.rest
    (ap (λ (s : State). s.source.encoding) reader) c.header.ensures.tag c.header.ensures.length (ap (λ (s : State). s.room) reader) (ap (λ (s : State). s.rest) reader) same
    ((c.in_err-value.ensures.reads b view calls).0 (ap (λ (s : State). s.failed) reader)))

pub returns-clause-reads : goal.returns-clause-reads
returns-clause-reads g c = λ b view calls.
    let reader = c.in_ok-reader.ensures.ok.1 in
    let same : same_tag c.args.self.now.tag Sequence ≡ true = sym c.is_same_tag.ensures ∙ c.if-not-is_same_tag.false in
    read_ok encodings.Der Sequence (nested b) (any_lent c.args.self.now) (view c.in_ok-value.value) c.read_value.new.self.rest c.in_ok-reader.reader.source.encoding c.header.result.tag c.header.result.length.value c.in_ok-reader.reader.room c.in_ok-reader.reader.rest
    (ap (λ (s : State). s.source.encoding) reader) c.header.ensures.tag c.header.ensures.length (ap (λ (s : State). s.room) reader) (ap (λ (s : State). s.rest) reader) same
    (c.in_ok-value.ensures.reads b view calls).0

pub returns-in_err-value-clause-refused : goal.returns-in_err-value-clause-refused
returns-in_err-value-clause-refused g c = λ same.
    let reader = c.in_ok-reader.ensures.ok.1 in
    let p = err_from_is_err_and c.from_residual-in_err-value.result c.from_residual-in_err-value.ensures.1 in
    rw (p.1, p.2) (rw (reader, c.header.ensures.length) at c.in_err-value.ensures.refused)
