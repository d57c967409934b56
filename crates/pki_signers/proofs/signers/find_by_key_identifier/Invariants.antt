-- The loop invariant of `signers::find_by_key_identifier`: no certificate so far has the key identifier.
use Rattle.std.proofs.Common.{◌≡◌, drop}
use Rattle.std.specs.List.{position, position_from}
use Rattle.pki_signers.specs.Signers.{has_key_identifier}
use Rattle.pki_signers.proofs.signers.find_by_key_identifier.Given as goal

abbrev pub invariant-loop-place : goal.invariant-loop-place
invariant-loop-place l = position_from (has_key_identifier l.key_identifier) l.place (drop l.place l.certificates.certificates) ≡ position (has_key_identifier l.key_identifier) l.certificates.certificates
