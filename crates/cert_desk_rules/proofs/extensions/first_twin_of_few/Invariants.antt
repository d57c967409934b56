-- The loop invariant of `extensions::first_twin_of_few`: no extension so far has the OID of a later
-- one, so the result is that of the remaining ones.
use Rattle.std.proofs.Common.{◌≡◌, ◌<◌, ℕ, drop, false}
use Rattle.cert_desk_bundle.specs.CertParts.Views.{extensions_plain}
use Rattle.cert_desk_rules.specs.Judging.{are_distinct, has_twin}
use Rattle.cert_desk_rules.proofs.extensions.first_twin_of_few.Given as goal

abbrev pub invariant-loop-place : goal.invariant-loop-place
invariant-loop-place l = record {
  none : (other : ℕ) → other < l.place → has_twin (extensions_plain l.extensions) other ≡ false;
  rest : are_distinct (extensions_plain (drop l.place l.extensions)) ≡ are_distinct (extensions_plain l.extensions);
}
