-- Goals of `packed::PackedPartialEq::eq` that the checker doesn't prove by itself.
use Rattle.std.proofs.Common.{◌≡◌, true, take, nat_eq, sym, ◌∙◌, arith}
use Rattle.std.proofs.lemmas.Bool.{not-false}
use Rattle.std.specs.Cmp.Lexicographic.{pointwise, bytes_decides}
use Rattle.const_oid.proofs.PackedLaws.{same_front}
use Rattle.const_oid.proofs.packed.PackedPartialEq.eq.Goals as goal

pub returns-then-self-le8 : goal.returns-then-self-le8
returns-then-self-le8 g c =
    let a = c.self.inside.bytes in
    let b = c.other.inside.bytes in
    let mine = rw c.in-Some-Some.is-0 at c.first_chunk.ensures.cases in
    let others = rw c.in-Some-Some.is-1 at c.first_chunk-2.ensures.cases in
    let equal : pointwise nat_eq c.in-Some-Some.front.now c.in-Some-Some.other_front.now ≡ true = not-false _ (sym c.ne.ensures ∙ c.if-ne.false) in
    let fronts : take 8 a ≡ take 8 b = sym mine.same ∙ (bytes_decides c.in-Some-Some.front.now c.in-Some-Some.other_front.now).0 equal ∙ others.same in
    let same = same_front g.row.SIZE 8 c.self.inside.count c.other.inside.count a b c.self.invariant.0 c.other.invariant.0 c.if-self-other.false c.if-self-le8.true (omega arith) fronts in
    sym ((bytes_decides c.args.self.now c.args.other.now).1 (sym c.self.view_is ∙ same ∙ c.other.view_is))
