-- The loop invariants of `types_before::rank_among`.
use Rattle.std.proofs.Common.{◌≡◌, ◌+◌, drop}
use Rattle.std.specs.List.{position_or_len}
use Rattle.x509_cert_certificates.specs.Oid.Comparing.{owned_eq}
use Rattle.x509_cert_builders.proofs.types_before.rank_among.Given as goal

abbrev pub invariant-loop-place : goal.invariant-loop-place
invariant-loop-place l = position_or_len (λ u. owned_eq u l.oid) l.types ≡ l.place + position_or_len (λ u. owned_eq u l.oid) (drop l.place l.types)
