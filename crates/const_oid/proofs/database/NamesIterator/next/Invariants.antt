-- The loop invariants of `database::NamesIterator::next`.
use Rattle.std.proofs.Common.{◌≡◌, ◌-◌, drop, length}
use Rattle.const_oid.specs.Names.{names_of}
use Rattle.const_oid.proofs.database.NamesIterator.next.Given as goal

-- The entries before the position have other identifiers.
abbrev pub invariant-loop-self : goal.invariant-loop-self
invariant-loop-self l =
    (names_of l.initial.self.oid (drop l.initial.self.passed l.initial.self.entries.now) ≡ names_of l.self.oid (drop l.self.passed l.self.entries.now))

abbrev pub decreases-loop-self : goal.decreases-loop-self
decreases-loop-self l = length l.self.entries.now - l.self.passed
