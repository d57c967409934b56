-- The loop invariant of `order_runs::signers_of`: the signers so far have the keys of the orders so
-- far.
use Rattle.std.proofs.Common.{◌≡◌, map, take}
use Rattle.cert_desk.specs.Runs.{key_of, signer_key}
use Rattle.cert_desk.proofs.order_runs.signers_of.Given as goal

abbrev pub invariant-loop-order : goal.invariant-loop-order
invariant-loop-order l = map signer_key l.signers.items ≡ map key_of (take l.order-index l.signing)
