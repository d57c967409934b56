-- Goals of `reader::Reader::sequence` that the checker doesn't prove by itself.
use Rattle.std.proofs.Common.{◌≡◌, false, Ok, Err, inl, inr, refl, ap, ◌∙◌, sym}
use Rattle.std.proofs.lemmas.Result.{err_from_is_err_and}
use Rattle.der_core_head.specs.declared.tag.Tag.TheVariants.{Sequence}
use Rattle.der_core_head.specs.Octets.{◌>>=◌}
use Rattle.der_core_head.specs.Tags.{same_tag}
use Rattle.der_core_head.specs.Bodies.{head_by}
use Rattle.der_core_head.specs.Shapes.{nested}
use Rattle.der_core_head.specs.Grammar.{value_at}
use Rattle.der_core_head.specs.Reading.{State, read_content_at}
use Rattle.der_core_head.proofs.TagLaws.{same_tag-refl}
use Rattle.der_core_octets.specs.Nesting.{Enters}
use Rattle.der_core_octets.proofs.GoingOn.{by_failed, enters_wanted, wanted_reads, broken_kept, tlv_wanted, wanted_err}
use Rattle.der_core_octets.proofs.reader.Reader.sequence.Goals as goal

pub returns-in_err-header-clause-reads : goal.returns-in_err-header-clause-reads
returns-in_err-header-clause-reads g c = λ b view calls.
    let p = err_from_is_err_and c.from_residual.result c.from_residual.ensures.1 in
    let old = g.Self.Reader.state c.args.self.now in
    let faulty = c.in_err-header.ensures.front in
    let value = read_content_at old (nested b) Sequence in
    rw (p.1, p.2) (λ ready memory. tlv_wanted old.source.encoding Sequence value old.rest ∙ ap (λ r. r >>= λ x. value_at value x.0.len x.1) (faulty.0 ready), broken_kept _ _ faulty.1, faulty.2, ap (λ (s : State). s.failed) faulty.1)

pub returns-in_err-value-clause-reads : goal.returns-in_err-value-clause-reads
returns-in_err-value-clause-reads g c = λ b view calls.
    let p = err_from_is_err_and c.from_residual-in_err-value.result c.from_residual-in_err-value.ensures.1 in
    let state = g.Self.Reader.state in
    rw (p.1, p.2) (wanted_reads Sequence b view (state c.args.self.now) (state c.read_header_of.new.self) (state c.read_nested.new.self) c.in_ok-header.header
    (Err c.in_err-value.field-0.0) c.in_ok-header.ensures.front (c.in_err-value.ensures.reads Sequence b view calls))

pub returns-clause-reads : goal.returns-clause-reads
returns-clause-reads g c = λ b view calls.
    let state = g.Self.Reader.state in
    wanted_reads Sequence b view (state c.args.self.now) (state c.read_header_of.new.self) (state c.read_nested.new.self) c.in_ok-header.header
    (Ok c.in_ok-value.value) c.in_ok-header.ensures.front (c.in_ok-value.ensures.reads Sequence b view calls)

-- There is no header under the reader's encoding rules, or one with another tag.
pub returns-in_err-header-clause-refused : goal.returns-in_err-header-clause-refused
returns-in_err-header-clause-refused g c =
    let p = err_from_is_err_and c.from_residual.result c.from_residual.ensures.1 in
    let old = g.Self.Reader.state c.args.self.now in
    let k = c.in_err-header.field-0.0.kind in
    let faulty = c.in_err-header.ensures.front in
    let stands = λ (ready : old.failed ≡ false). wanted_err Sequence (head_by old.source.encoding) old.rest k (faulty.0 ready) in
    rw (p.1, p.2) (elim (by_failed old.failed stands faulty.2) [
      | inl h ↦ inl h
      | inr h ↦ inr (elim h.1 [
        | inl none ↦ inl (h.0, none)
        | inr other ↦
            let x = other.0 in
            let mid : State = record old { rest = x.1 } in
            let enters : Enters x.0.tag x.0.len old mid = record { ready = h.0; head = other.1; moved = refl } in
            inr (inl ((x.0.tag, x.0.len, mid, enters, λ e. absurd (cc (other.2, ap (same_tag x.0.tag) (sym e), same_tag-refl x.0.tag))), other.3))
      ])
    ])

pub returns-in_err-value-clause-refused : goal.returns-in_err-value-clause-refused
returns-in_err-value-clause-refused g c =
    let p = err_from_is_err_and c.from_residual-in_err-value.result c.from_residual-in_err-value.ensures.1 in
    let old = g.Self.Reader.state c.args.self.now in
    let mid = g.Self.Reader.state c.read_header_of.new.self in
    let h = c.in_ok-header.header in
    rw (p.1, p.2) (inr (inr (inr (h.length.value, mid, enters_wanted old mid Sequence h c.in_ok-header.ensures.tag c.in_ok-header.ensures.front, c.in_err-value.ensures.refused))))

pub returns-clause-moved : goal.returns-clause-moved
returns-clause-moved g c =
    let old = g.Self.Reader.state c.args.self.now in
    let mid = g.Self.Reader.state c.read_header_of.new.self in
    let h = c.in_ok-header.header in
    (h.length.value, mid, enters_wanted old mid Sequence h c.in_ok-header.ensures.tag c.in_ok-header.ensures.front, c.in_ok-value.ensures.moved)

pub returns-clause-ran : goal.returns-clause-ran
returns-clause-ran g c =
    let old = g.Self.Reader.state c.args.self.now in
    let mid = g.Self.Reader.state c.read_header_of.new.self in
    let h = c.in_ok-header.header in
    (h.length.value, mid, enters_wanted old mid Sequence h c.in_ok-header.ensures.tag c.in_ok-header.ensures.front, c.in_ok-value.ensures.ran)
