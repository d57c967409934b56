-- The loop invariant of `accepting::names_subscriber`: all RDNs so far are allowed, so the result
-- is that of the remaining ones.
use Rattle.std.proofs.Common.{◌≡◌}
use Rattle.std.specs.Slice.Iter.{iter_rest}
use Rattle.cert_desk_listing.specs.Der.Grammar.{plain_list}
use Rattle.cert_desk_listing.specs.CertNames.Pairs.{relative_plain}
use Rattle.cert_desk_listing.specs.CertNames.Views.{name_plain}
use Rattle.cert_desk.specs.Acceptance.{names_subscriber}
use Rattle.cert_desk.proofs.accepting.names_subscriber.Given as goal

abbrev pub invariant-loop-relative : goal.invariant-loop-relative
invariant-loop-relative l = names_subscriber (plain_list relative_plain (iter_rest l.relative-iterator)) ≡ names_subscriber (name_plain l.subject)
