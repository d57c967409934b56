-- The loop invariants of `name_iter::NameIterIterator::next`.
use Rattle.std.proofs.Common.{◌≡◌, length}
use Rattle.x509_cert_names.specs.Views.{attributes_left}
use Rattle.x509_cert_names.proofs.name_iter.NameIterIterator.next.Given as goal

abbrev pub invariant-loop-relative : goal.invariant-loop-relative
invariant-loop-relative l = attributes_left l.self ≡ attributes_left l.initial.self

abbrev pub decreases-loop-relative : goal.decreases-loop-relative
decreases-loop-relative l = length l.self.left.now
