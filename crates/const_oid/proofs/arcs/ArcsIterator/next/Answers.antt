-- Goals of `arcs::ArcsIterator::next` that the checker doesn't prove by itself.
use Rattle.std.proofs.Common.{◌≡◌, []}
use Rattle.const_oid.specs.References.{remaining_arcs}
use Rattle.const_oid.proofs.ArcsLaws.{later_arcs-nil}
use Rattle.const_oid.proofs.arcs.ArcsIterator.next.Goals as goal

pub returns-in_default-first_arc-clause-steps : goal.returns-in_default-first_arc-clause-steps
returns-in_default-first_arc-clause-steps c =
    let s = c.args.self.now in
    let none : remaining_arcs s ≡ [] = rw (c.in_default.is, c.in_default-second.is) (later_arcs-nil 0 s.later.now c.in_default-first_arc.ensures) in
    (none, none)
