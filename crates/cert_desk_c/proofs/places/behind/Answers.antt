-- Goals of `places::behind` that the checker doesn't prove by itself.
use Rattle.std.proofs.Common.{◌+◌, [], refl, arith}
use Rattle.cert_desk_c.proofs.PartPlaces.{is_rest, passed_within, passed}
use Rattle.cert_desk_c.proofs.places.behind.Goals as goal

pub returns-then-all-octets : goal.returns-then-all-octets
returns-then-all-octets c = (
  ([], refl),
  λ t k b v w valid e. absurd (omega (arith, passed_within c.args.octets.now c.lengths-header.result.0 c.lengths-header.result.1 c.lengths-header.ensures.header t k b v w valid e)),
)

pub returns : goal.returns
returns c = (
  is_rest c.args.octets.now (c.lengths-header.result.0 + c.lengths-header.result.1),
  passed c.args.octets.now c.lengths-header.result.0 c.lengths-header.result.1 c.lengths-header.ensures.header,
)
