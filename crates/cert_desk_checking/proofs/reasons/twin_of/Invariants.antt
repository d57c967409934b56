-- The loop invariant of `reasons::twin_of`: no extension so far has the OID, so the result is that
-- of the remaining ones.
use Rattle.std.proofs.Common.{◌≡◌, ◌<◌, ℕ, drop, false}
use Rattle.x509_cert_anchors.specs.CertParts.Views.{extension_plain, extensions_plain}
use Rattle.cert_desk_rules.specs.Judging.{is_alone}
use Rattle.cert_desk_rules.specs.Reasons.{have_one_identifier, is_at}
use Rattle.cert_desk_checking.proofs.reasons.twin_of.Given as goal

abbrev pub invariant-loop-number : goal.invariant-loop-number
invariant-loop-number l = record {
  none : (other : ℕ) → other < l.number → is_at (have_one_identifier (extension_plain l.extension)) (extensions_plain l.others) other ≡ false;
  rest : is_alone (extension_plain l.extension) (extensions_plain (drop l.number l.others)) ≡ is_alone (extension_plain l.extension) (extensions_plain l.others);
}
