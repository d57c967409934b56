-- Goals of `places::inside` that the checker doesn't prove by itself.
use Rattle.cert_desk_c.proofs.PartPlaces.{is_rest, entered}
use Rattle.cert_desk_c.proofs.places.inside.Goals as goal

pub returns : goal.returns
returns c = (
  is_rest c.args.octets.now c.lengths-header.result.0,
  entered c.args.octets.now c.lengths-header.result.0 c.lengths-header.result.1 c.lengths-header.ensures.header,
)
