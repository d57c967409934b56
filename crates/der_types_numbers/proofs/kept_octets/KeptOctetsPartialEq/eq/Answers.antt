-- Goals of `kept_octets::KeptOctetsPartialEq::eq` that the checker doesn't prove by itself.
use Rattle.std.proofs.Common.{◌≡◌, take, sym, ap, ◌∙◌}
use Rattle.std.proofs.lemmas.List.{take-take}
use Rattle.std.specs.Cmp.Lexicographic.{bytes_decides}
use Rattle.der_types_numbers.specs.Kept.{kept}
use Rattle.der_types_numbers.proofs.kept_octets.KeptOctetsPartialEq.eq.Goals as goal

pub returns-then-eq : goal.returns-then-eq
returns-then-eq c =
    let few = c.in-Few-Few.few in
    let others = c.in-Few-Few.others in
    let mine = rw c.in-Some-Some.is-0 at c.first_chunk.ensures.cases in
    let theirs = rw c.in-Some-Some.is-1 at c.first_chunk-in-Few-Few.ensures.cases in
    let fronts : take 8 few.bytes ≡ take 8 others.bytes = sym mine.same ∙ (bytes_decides c.in-Some-Some.front.now c.in-Some-Some.other_front.now).0 (sym c.eq.ensures ∙ c.if-eq.true) ∙ theirs.same in
    let same : take few.len few.bytes ≡ take others.len others.bytes =
    sym (take-take few.len 8 few.bytes c.if-few-le8.true) ∙ ap (take few.len) fronts ∙ take-take few.len 8 others.bytes c.if-few-le8.true ∙ ap (λ n. take n others.bytes) c.if-few-others.true in
    sym ((bytes_decides c.args.self.now c.args.other.now).1 (sym c.self.view_is ∙ ap kept c.in-Few-Few.is-0 ∙ same ∙ sym (ap kept c.in-Few-Few.is-1) ∙ c.other.view_is))
