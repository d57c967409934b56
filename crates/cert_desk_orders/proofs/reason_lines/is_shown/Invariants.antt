-- The loop invariant of `reason_lines::is_shown`: all bytes so far are printable, so the result is
-- that of the remaining ones.
use Rattle.std.proofs.Common.{◌≡◌, ◌&&◌, drop}
use Rattle.std.specs.Prelude.{nat_lt}
use Rattle.std.specs.List.{list_all}
use Rattle.cert_desk_orders.proofs.reason_lines.is_shown.Given as goal

abbrev pub invariant-loop-octet : goal.invariant-loop-octet
invariant-loop-octet l = list_all (λ octet. nat_lt 32 octet && nat_lt octet 127) (drop l.octet-index l.word) ≡ list_all (λ octet. nat_lt 32 octet && nat_lt octet 127) l.word
