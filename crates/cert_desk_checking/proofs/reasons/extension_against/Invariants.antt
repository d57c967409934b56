-- The loop invariant of `reasons::extension_against`: no extension so far breaks the rule, so the
-- result is that of the remaining ones.
use Rattle.std.proofs.Common.{◌≡◌, ◌<◌, ℕ, drop, false}
use Rattle.std.specs.List.{list_any}
use Rattle.x509_cert_anchors.specs.Oid.Bound.{Bound}
use Rattle.x509_cert_anchors.specs.CertParts.Views.{extensions_plain}
use Rattle.cert_desk_rules.specs.Reasons.{is_against, is_at}
use Rattle.cert_desk_checking.proofs.reasons.extension_against.Given as goal

abbrev pub invariant-loop-number : goal.invariant-loop-number
invariant-loop-number l = record {
  none : (other : ℕ) → other < l.number → is_at (is_against Bound l.purpose l.rule) (extensions_plain l.extensions) other ≡ false;
  rest : list_any (is_against Bound l.purpose l.rule) (extensions_plain (drop l.number l.extensions)) ≡ list_any (is_against Bound l.purpose l.rule) (extensions_plain l.extensions);
}
