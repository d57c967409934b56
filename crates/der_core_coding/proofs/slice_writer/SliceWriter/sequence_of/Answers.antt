-- Goals of `slice_writer::SliceWriter::sequence_of` that the checker doesn't prove by itself.
use Rattle.std.proofs.Common.{◌≡◌, ◌+◌, length, refl, arith, inl, inr, take, length-take}
use Rattle.std.proofs.lemmas.Result.{err_from_is_err_and}
use Rattle.der_core_coding.proofs.slice_writer.SliceWriter.sequence_of.Goals as goal
use Rattle.der_core_coding.proofs.slice_writer.SliceWriter.sequence_of.Goals.{then-self-start-via-then-self-start, then-self-start-via-else-self-start+then-self-start-2}

pub returns-clause-ok : goal.returns-clause-ok
returns-clause-ok g c =
    let inner = c.encode_header.new.writer in
    let outer = c.f.new.arg2 in (
      inner,
      outer,
      c.in_ok-encode_header.ensures.exact,
      record { shown = _; shows = refl; left = _; met = c.in_ok-f.ensures; leaves = refl },
      refl,
      omega (arith, length-take outer.position outer.bytes.now, length-take inner.position inner.bytes.now, outer.inside, inner.inside),
    )

pub returns-in_err-f-clause-fault : goal.returns-in_err-f-clause-fault
returns-in_err-f-clause-fault g c =
    let p = err_from_is_err_and c.from_residual-in_err-f.result c.from_residual-in_err-f.ensures.1 in
    rw (p.1, p.2) (inr (inl (c.encode_header.new.writer, c.f.new.arg2, (c.in_ok-encode_header.ensures.exact, record { shown = _; shows = refl; left = _; met = c.in_err-f.ensures; leaves = refl }), refl)))

pub returns-then-self-start-clause-fault : goal.returns-then-self-start-clause-fault
returns-then-self-start-clause-fault g c =
    let inner = c.encode_header.new.writer in
    let outer = c.f.new.arg2 in
    let front = length-take inner.position inner.bytes.now in
    let back = length-take outer.position outer.bytes.now in
    let other : length (take outer.position outer.bytes.now) ≡ length (take inner.position inner.bytes.now) + c.args.length.value → ⊥ = λ same.
    elim c.then-self-start.branch as (λ _. ⊥) [
      | then-self-start-via-then-self-start w ↦ omega (arith, same, front, back, outer.inside, inner.inside, w.if-self-start)
      | then-self-start-via-else-self-start+then-self-start-2 w ↦ omega (arith, same, front, back, outer.inside, inner.inside, w.if-self-start, w.if-self-start-2)
    ] in
    inr (inr (inner, outer, (c.in_ok-encode_header.ensures.exact, record { shown = _; shows = refl; left = _; met = c.in_ok-f.ensures; leaves = refl }), refl, other, c.from.ensures))
