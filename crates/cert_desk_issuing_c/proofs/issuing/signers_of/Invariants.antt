-- The loop invariant of `issuing::signers_of`: the signers so far are those of the orders so far.
use Rattle.std.proofs.Common.{◌≡◌, map, take}
use Rattle.cert_desk_orders.specs.CertParts.Views.{algorithm_plain}
use Rattle.cert_desk_issuing_c.specs.Signing.{signer_for, signer_plain}
use Rattle.cert_desk_issuing_c.proofs.issuing.signers_of.Given as goal

abbrev pub invariant-loop-order : goal.invariant-loop-order
invariant-loop-order l = map signer_plain l.signers.items ≡ map (signer_for (algorithm_plain l.algorithm) l.signature) (take l.order-index l.signing)
