-- Goals of `listing::of_list` that the checker doesn't prove by itself.
use Rattle.std.proofs.Common.{rules}
use Rattle.cert_desk_listing.specs.Listing.{list_lines}
use Rattle.cert_desk_listing.proofs.listing.of_list.Goals as goal

pub returns : goal.returns
unfolding list_lines
returns c = search rules
