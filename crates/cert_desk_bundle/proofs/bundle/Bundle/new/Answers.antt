-- Goals of `Bundle::new`: a new bundle has read the empty input.
use Rattle.std.proofs.Common.{arith}
use Rattle.x509_cert_certificates.specs.Oid.Bound.{Bound}
use Rattle.cert_desk_bundle.proofs.LocationLaws.{kept-none}
use Rattle.cert_desk_bundle.proofs.Readings.{Reads-nil}
use Rattle.cert_desk_bundle.proofs.Scans.{awaits_new}
use Rattle.cert_desk_bundle.proofs.bundle.Bundle.new.Goals as goal

pub invariant_of-result : goal.invariant_of-result
invariant_of-result c =
    let rest = c.new-2.ensures in
    record {
      room = c.requires;
      kept = rw c.new.ensures.items (kept-none c.args.limit);
      awaits = awaits_new c.args.limit 0 c.requires (omega arith) c.new-2.result.octets.items c.new-2.result.wanted rest.octets rest.wanted;
      shut = λ h. rest.octets;
    }

pub returns-clause-empty : goal.returns-clause-empty
returns-clause-empty c = rw (c.new.ensures.items, c.new-2.ensures.octets) (Reads-nil Bound c.args.limit)
