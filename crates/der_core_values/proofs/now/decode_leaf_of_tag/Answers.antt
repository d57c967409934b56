-- Goals of `now::decode_leaf_of_tag` that the checker doesn't prove by itself.
use Rattle.std.proofs.Common.{◌≡◌, false, Ok, Err, Result, ap, sym, ◌∙◌, IfErr}
use Rattle.std.proofs.lemmas.Result.{err_from_is_err_and}
use Rattle.der_core_octets.specs.CoreHead.declared.error.Error.{Error}
use Rattle.der_core_octets.specs.CoreHead.declared.error.ErrorKind.{ErrorKind}
use Rattle.der_core_octets.specs.CoreHead.Shapes.{leaf}
use Rattle.der_core_octets.specs.CoreHead.Grammar.{value_at}
use Rattle.der_core_octets.specs.CoreHead.Reading.{State, read_content_at}
use Rattle.der_core_octets.specs.Headers.{head_of}
use Rattle.der_core_values.proofs.Headed.{headed, head_refused, head_read}
use Rattle.der_core_values.proofs.now.decode_leaf_of_tag.Goals as goal

pub returns-in_err-header-clause-reads : goal.returns-in_err-header-clause-reads
returns-in_err-header-clause-reads g c =
    let p = err_from_is_err_and c.from_residual.result c.from_residual.ensures.1 in
    rw (p.1, p.2) (head_refused (leaf g.T.Primitive.kind) _ g.T.FixedTag.fixed_tag c.tag.ensures _ g.T.Primitive.leaf_plain _ c.in_err-header.field-0.0 c.in_err-header.ensures.front)

pub returns-in_err-header-clause-fault : goal.returns-in_err-header-clause-fault
returns-in_err-header-clause-fault g c =
    let p = err_from_is_err_and c.from_residual.result c.from_residual.ensures.1 in
    rw (p.1, p.2) (λ none ready. headed (leaf g.T.Primitive.kind) _ g.T.FixedTag.fixed_tag c.tag.ensures (g.R.Reader.state c.args.reader.now) (c.in_err-header.ensures.front.0 ready))

pub returns-clause-reads : goal.returns-clause-reads
returns-clause-reads g c =
    head_read (leaf g.T.Primitive.kind) _ g.T.FixedTag.fixed_tag c.tag.ensures _ g.T.Primitive.leaf_plain (head_of c.in_ok-header.header) _ _ c.decode_leaf.result c.in_ok-header.ensures.front c.in_ok-header.ensures.tag
    c.decode_leaf.ensures.reads

-- The error of the content is the error of the value.
faults : {A B : Type 0} (r : Result A Error) (here there : Result B ErrorKind) (old mid : State) → here ≡ there → mid.failed ≡ old.failed
    → IfErr r (λ e. mid.failed ≡ false → there ≡ Err e.kind) → IfErr r (λ e. old.failed ≡ false → here ≡ Err e.kind)
faults (Ok x) here there old mid same stands h = tt
faults (Err e) here there old mid same stands h = λ ready. same ∙ h (stands ∙ ready)

pub returns-clause-fault : goal.returns-clause-fault
returns-clause-fault g c = λ none.
    let old = g.R.Reader.state c.args.reader.now in
    let mid = g.R.Reader.state c.read_header_of.new.self in
    let h = c.in_ok-header.header in
    let content = leaf g.T.Primitive.kind in
    let fixed = g.T.FixedTag.fixed_tag in
    let front = c.in_ok-header.ensures.front in
    let equal : h.tag ≡ fixed = c.in_ok-header.ensures.tag ∙ c.tag.ensures in
    let same = headed content _ fixed c.tag.ensures old front.0 in
    let alike : value_at (read_content_at old content fixed) h.length.value mid.rest ≡ value_at (read_content_at mid content h.tag) h.length.value mid.rest =
    sym (ap (λ (s : State). value_at (read_content_at s content fixed) h.length.value mid.rest) front.1) ∙ ap (λ t. value_at (read_content_at mid content t) h.length.value mid.rest) (sym equal) in
    faults c.decode_leaf.result _ _ old mid (same ∙ alike) (ap (λ (s : State). s.failed) front.1) (c.decode_leaf.ensures.fault none)
