-- Goals of `listing::of_request` that the checker doesn't prove by itself.
use Rattle.std.proofs.Common.{rules}
use Rattle.cert_desk_listing.specs.Listing.{request_lines}
use Rattle.cert_desk_listing.proofs.listing.of_request.Goals as goal

pub returns : goal.returns
unfolding request_lines
returns c = search rules
