-- Goals of `class_field::ClassField::decode` that the checker doesn't prove by itself.
use Rattle.std.proofs.Common.{◌≡◌, ◌/◌, true, Err, ap, subst, ◌∙◌, ℕ, List, Result, Ok, refl}
use Rattle.std.proofs.lemmas.Result.{err_from_is_err_and}
use Rattle.der_core.specs.TagTypes.Tag.{Tag}
use Rattle.der_core.specs.Tags.{class_tag, number_of}
use Rattle.der_core.specs.Shapes.{nested, only, tagged, Shape}
use Rattle.der_core.specs.Reading.{Reads, read_at}
use Rattle.der_core.specs.Headers.{head_of}
use Rattle.der_core.specs.ErrorTypes.ErrorKind.{ErrorKind}
use Rattle.der_core.specs.EncodingRulesTypes.EncodingRules.{EncodingRules}
use Rattle.der_core.specs.Heads.{Head}
use Rattle.der_core.specs.Bodies.{head_by}
use Rattle.der_core.specs.Grammar.{read_by}
use Rattle.der_core.proofs.Results.{ok_is}
use Rattle.der_core.specs.Fronts.{alone}
use Rattle.der_types_tagged.specs.Fields.{explicit_field, numbered_at}
use Rattle.der_types_tagged.proofs.class_field.ClassField.decode.Goals as goal

-- If decoding with the number of the tag fails, so does decoding with any number.
numbered_stops : (rules : EncodingRules) (class : ℕ) (s : Shape) (room : ℕ) (w : List ℕ) (h : Head) (k : ErrorKind) → alone (head_by rules w) ≡ Ok h
    → read_by rules (explicit_field class (number_of h.tag) s) room w ≡ Err k → numbered_at rules class s room w ≡ Err k
unfolding numbered_at
numbered_stops rules class s room w h k stands stops = go (head_by rules w) refl stands
  where
    go : (r : Result (Head × List ℕ) ErrorKind) → head_by rules w ≡ r → alone r ≡ Ok h → numbered_at rules class s room w ≡ Err k
    go (Ok x) e i =
        let equal : x.0 ≡ h = ok_is x.0 h i in
        rw (e, equal, stops) refl
    go (Err j) e i = absurd cc

pub returns-in_err-value-clause-reads : goal.returns-in_err-value-clause-reads
returns-in_err-value-clause-reads g c =
    let p = err_from_is_err_and c.from_residual.result c.from_residual.ensures.1 in
    let old = g.R.Reader.state c.args.reader.now in
    let class = g.row.CLASS in
    let h = c.in-Ok.header in
    let e = c.in_err-value.field-0.0 in
    let own : c.tag_of_class-tag.result ≡ class_tag (class / 64) true (number_of h.tag) = c.tag_of_class-tag.ensures ∙ ap (class_tag (class / 64) true) c.number-tag_number.ensures in
    let P : Tag → Type 0 = λ t. Reads g.T.Shaped.plain old (g.R.Reader.state c.read_explicit.new.reader) (Err e) (read_at old (tagged t (nested (only g.T.Shaped.shape)))) in
    let inner : P (class_tag (class / 64) true (number_of h.tag)) = subst P own c.in_err-value.ensures in
    rw (p.1, p.2) (λ ready memory. numbered_stops old.source.encoding class g.T.Shaped.shape old.room old.rest (head_of h) e.kind c.in-Ok.ensures.0 (inner.0 ready memory), inner.1, inner.2, inner.3)
