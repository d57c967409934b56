-- Goals of `packed::Packed::push_arc` that the checker doesn't prove by itself.
use Rattle.std.proofs.Common.{◌≡◌, ◌+◌, ◌≤◌, ◌++◌, length, ap, ◌∙◌, arith}
use Rattle.const_oid.specs.IdentifierOctets.{arc_octets}
use Rattle.const_oid.specs.PackedOctets.{unmarked_front}
use Rattle.const_oid.proofs.PackedLaws.{packed_push}
use Rattle.const_oid.proofs.packed.Packed.push_arc.Goals as goal

pub invariant_of-self : goal.invariant_of-self
invariant_of-self g c =
    let old = c.self.inside in
    let end = length c.as_bytes-start.result.now + c.octet_count-count.result in
    let at : end ≡ length (unmarked_front old.bytes) + length (arc_octets c.args.arc) =
    omega (arith, ap length c.as_bytes-start.ensures.octets, ap length c.self.view_is, c.octet_count-count.ensures.value) in
    let within : end ≤ g.row.SIZE = omega arith in
    ((packed_push g.row.SIZE old.count end c.counted-self-inside.result c.args.arc old.bytes c.write_arc.new.bytes c.self.invariant.0 at within c.counted-self-inside.ensures c.write_arc.ensures).0, c.self.invariant.1)

pub returns : goal.returns
returns g c =
    let old = c.self.inside in
    let end = length c.as_bytes-start.result.now + c.octet_count-count.result in
    let at : end ≡ length (unmarked_front old.bytes) + length (arc_octets c.args.arc) =
    omega (arith, ap length c.as_bytes-start.ensures.octets, ap length c.self.view_is, c.octet_count-count.ensures.value) in
    let within : end ≤ g.row.SIZE = omega arith in
    let pushed = packed_push g.row.SIZE old.count end c.counted-self-inside.result c.args.arc old.bytes c.write_arc.new.bytes c.self.invariant.0 at within c.counted-self-inside.ensures c.write_arc.ensures in
    (ap length c.as_bytes-start.ensures.octets, pushed.1 ∙ ap (λ t. t ++ arc_octets c.args.arc) c.self.view_is, omega (arith, at, within, ap length c.self.view_is))
