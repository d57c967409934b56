-- Goals of `laws::compare_borrowed` that the checker doesn't prove by itself.
use Rattle.std.proofs.Common.{ap, ◌∙◌}
use Rattle.std.specs.Ordering.{nat_cmp}
use Rattle.std.specs.Cmp.Lexicographic.{slice_cmp}
use Rattle.const_oid.specs.IdentifierOctets.{identifier_octets}
use Rattle.const_oid.specs.References.{reference_arcs}
use Rattle.const_oid.proofs.laws.compare_borrowed.Goals as goal

pub returns : goal.returns
returns c =
    c.cmp.ensures
    ∙ ap (λ t. slice_cmp nat_cmp t c.args.b.now.octets.now) c.args.a.now.is_spelled
    ∙ ap (λ t. slice_cmp nat_cmp (identifier_octets (reference_arcs c.args.a.now)) t) c.args.b.now.is_spelled
