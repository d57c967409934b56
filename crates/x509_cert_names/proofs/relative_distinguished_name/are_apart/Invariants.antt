-- The loop invariants of `relative_distinguished_name::are_apart`.
use Rattle.std.proofs.Common.{take}
use Rattle.x509_cert_names.specs.Ordered.{DifferInTurn}
use Rattle.x509_cert_names.proofs.relative_distinguished_name.are_apart.Given as goal

abbrev pub invariant-loop-place : goal.invariant-loop-place
invariant-loop-place l = DifferInTurn (take l.place l.attributes)
