-- Goals of `database::NamesIterator::next` that the checker doesn't prove by itself.
use Rattle.std.proofs.Common.{length, ap, sym, ◌∙◌, arith, rules}
use Rattle.const_oid.proofs.NamesLaws.{names-match, names-pass}
use Rattle.const_oid.proofs.database.NamesIterator.next.Goals as goal

pub loop-self-preserved : goal.loop-self-preserved
loop-self-preserved c =
    let s = c.loop-self.self in
    c.loop-self.invariant ∙ names-pass s.oid s.entries.now s.passed _ c.loop-self-test.true (sym c.eq.ensures ∙ c.if-eq.false)

pub returns-then-eq-clause-steps : goal.returns-then-eq-clause-steps
returns-then-eq-clause-steps c =
    let s = c.loop-self.self in
    c.loop-self.invariant ∙ names-match s.oid s.entries.now s.passed _ c.index-self-self-in-loop-self.result c.loop-self-test.true (sym c.eq.ensures ∙ c.if-eq.true)

pub returns-then-eq-clause-goes : goal.returns-then-eq-clause-goes
returns-then-eq-clause-goes c =
    let s = c.loop-self.self in
    let steps = c.loop-self.invariant ∙ names-match s.oid s.entries.now s.passed _ c.index-self-self-in-loop-self.result c.loop-self-test.true (sym c.eq.ensures ∙ c.if-eq.true) in
    record { on = λ _. (search rules, search rules, omega (arith, ap length steps)); keeps = search rules; rests = λ _. search rules }
