-- The arrays so far, with those of the remaining certificates, are all arrays.
use Rattle.std.proofs.Common.{◌≡◌, [], drop, string_bytes}
use Rattle.cert_tool_limits.specs.Unjudged.{and_certificates}
use Rattle.cert_tool_limits.proofs.unjudged.certificates_text.Given as goal

abbrev pub invariant-loop-place : goal.invariant-loop-place
invariant-loop-place l = record {
  left : and_certificates l.is_strict l.purpose (string_bytes l.items) (drop l.place l.bundle.certificates) ≡ and_certificates l.is_strict l.purpose [] l.bundle.certificates;
}
