-- Goals of `Bundle::stop`: no bytes of an incomplete certificate are kept.
use Rattle.std.proofs.Common.{arith}
use Rattle.cert_desk_bundle.proofs.Scans.{awaits_new}
use Rattle.cert_desk_bundle.proofs.bundle.Bundle.stop.Goals as goal

pub invariant_of-self : goal.invariant_of-self
invariant_of-self c =
    let i = c.self.invariant in
    let new = c.new.ensures in
    record {
      room = i.room;
      kept = i.kept;
      awaits = awaits_new c.self.inside.limit c.self.inside.end i.room (omega arith) c.new.result.octets.items c.new.result.wanted new.octets new.wanted;
      shut = λ h. new.octets;
    }
