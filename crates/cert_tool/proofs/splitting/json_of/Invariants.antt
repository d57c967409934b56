-- The text has the objects of the certificates before this index.
use Rattle.std.proofs.Common.{◌≡◌, string_bytes}
use Rattle.cert_tool.specs.Splitting.{json_places_below}
use Rattle.cert_tool.proofs.splitting.json_of.Given as goal

abbrev pub invariant-loop-place : goal.invariant-loop-place
invariant-loop-place l = string_bytes l.text ≡ json_places_below l.fn.bundle.certificates l.place
