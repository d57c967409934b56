-- Goals of `reader::Reader::next_tag_or_end` that the checker doesn't prove by itself.
use Rattle.std.proofs.Common.{[], ap, sym, ◌∙◌, ◌≢◌}
use Rattle.std.proofs.lemmas.Result.{err_from_is_err_and}
use Rattle.der_core_head.specs.Bodies.{tag_by}
use Rattle.der_core_head.specs.Fronts.{alone}
use Rattle.der_core_octets.proofs.GoingOn.{peek_ok, peek_err, some_left}
use Rattle.der_core_octets.proofs.reader.Reader.next_tag_or_end.Goals as goal
use Rattle.der_core_octets.proofs.reader.Reader.next_tag_or_end.Goals.{then-not-is_failed+else-is_empty+in_default, else-not-is_failed}

pub returns-in-Some-clause-front : goal.returns-in-Some-clause-front
returns-in-Some-clause-front g c =
    let old = g.Self.Reader.state c.args.self.now in
    let rules = old.source.encoding in
    let rest = c.remaining-octets.ensures.rest in
    let left : old.rest ≢ [] = some_left _ _ _ c.is_empty.ensures c.if-is_empty.false rest in
    (peek_ok rules old.rest c.in-Some.tag left (ap (λ w. alone (tag_by rules w)) (sym rest) ∙ c.in-Some.ensures rules), cc)

pub returns-in_err-tag-clause-front : goal.returns-in_err-tag-clause-front
returns-in_err-tag-clause-front g c =
    let p = err_from_is_err_and c.from_residual.result c.from_residual.ensures.1 in
    let old = g.Self.Reader.state c.args.self.now in
    let front = c.in_err-tag.ensures.front in
    rw (p.1, p.2) (
      λ ready. elim c.if-not-is_failed.branch [
        | then-not-is_failed+else-is_empty+in_default w ↦
            let left : old.rest ≢ [] = some_left _ _ _ w.is_empty.ensures w.if-is_empty.false w.remaining-octets.ensures.rest in
            peek_err old.source.encoding old.rest _ left (front.0 ready)
        | else-not-is_failed w ↦ absurd (cc (ready, c.is_failed.ensures, w.if-not-is_failed.false))
      ],
      front.1,
    )

pub returns-clause-front : goal.returns-clause-front
returns-clause-front g c =
    let old = g.Self.Reader.state c.args.self.now in
    let front = c.in_ok-tag.ensures.front in
    elim c.if-not-is_failed.branch [
      | then-not-is_failed+else-is_empty+in_default w ↦
          let left : old.rest ≢ [] = some_left _ _ _ w.is_empty.ensures w.if-is_empty.false w.remaining-octets.ensures.rest in
          (peek_ok old.source.encoding old.rest _ left front.0, front.1)
      | else-not-is_failed w ↦ absurd (cc (front.1, c.is_failed.ensures, w.if-not-is_failed.false))
    ]
