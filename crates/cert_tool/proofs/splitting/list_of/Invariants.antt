-- The text has the lines of the certificates before this index.
use Rattle.std.proofs.Common.{◌≡◌, string_bytes}
use Rattle.cert_tool.specs.Splitting.{places_below}
use Rattle.cert_tool.proofs.splitting.list_of.Given as goal

abbrev pub invariant-loop-place : goal.invariant-loop-place
invariant-loop-place l = string_bytes l.text ≡ places_below l.fn.bundle.certificates l.place-counter
