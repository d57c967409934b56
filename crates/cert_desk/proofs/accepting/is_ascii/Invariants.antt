-- The loop invariant of `accepting::is_ascii`: all bytes so far are ASCII, so the result is that of
-- the remaining ones.
use Rattle.std.proofs.Common.{◌≡◌, drop}
use Rattle.std.specs.Prelude.{nat_lt}
use Rattle.std.specs.List.{list_all}
use Rattle.cert_desk.proofs.accepting.is_ascii.Given as goal

abbrev pub invariant-loop-octet : goal.invariant-loop-octet
invariant-loop-octet l = list_all (λ o. nat_lt o 128) (drop l.octet-index l.text) ≡ list_all (λ o. nat_lt o 128) l.text
