-- The loop invariants of `naming::foreign_type`.
use Rattle.std.specs.Prelude.{◌≡◌, drop, not, find}
use Rattle.x509_cert_builders.specs.Naming.{is_among}
use Rattle.x509_cert_builders.proofs.naming.foreign_type.Given as goal

abbrev pub invariant-loop-place : goal.invariant-loop-place
invariant-loop-place l = find (λ u. not (is_among l.allowed u)) (drop l.place l.found) ≡ find (λ u. not (is_among l.allowed u)) l.found
