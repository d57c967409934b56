-- Goals of `issuing::accept_at` that the checker doesn't prove by itself.
use Rattle.std.proofs.Common.{length, map, refl}
use Rattle.std.proofs.lemmas.Option.{slice_get_read}
use Rattle.cert_desk.proofs.AcceptedFronts.{accepted_at, refused_at}
use Rattle.cert_desk.proofs.issuing.accept_at.Goals as goal

pub returns : goal.returns
returns g c =
    let orders = c.args.orders.now in
    let keys = map g.S.Signer.public_key c.args.signers.now in
    let o = c.index-orders-place.result in
    let stands = slice_get_read orders (length orders) c.args.place o refl c.requires c.index-orders-place.is in
    record {
      accepted = accepted_at orders keys c.args.place c.role_at-role.result _ o stands c.role_at-role.ensures c.key_at-key.ensures c.accept_one.result c.accept_one.ensures.accepted;
      refused = refused_at orders keys c.args.place c.role_at-role.result _ o stands c.role_at-role.ensures c.key_at-key.ensures c.accept_one.result c.accept_one.ensures.refused;
    }
