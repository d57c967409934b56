-- The loop invariant of `issuing::accept_all`: the orders so far are accepted.
use Rattle.std.proofs.Common.{◌≡◌, length, map}
use Rattle.cert_desk.specs.Acceptance.{AcceptsFront}
use Rattle.cert_desk.specs.PlainOrders.{orders_plain}
use Rattle.cert_desk.proofs.issuing.accept_all.Given as goal

abbrev pub invariant-loop-place : goal.invariant-loop-place
invariant-loop-place g l = record {
  count : length l.all.items ≡ l.place;
  front : AcceptsFront l.orders (map g.S.Signer.public_key l.signers) (orders_plain l.all.items);
}
