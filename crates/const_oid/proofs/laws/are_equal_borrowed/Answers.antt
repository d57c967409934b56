-- Goals of `laws::are_equal_borrowed` that the checker doesn't prove by itself.
use Rattle.std.proofs.Common.{ap, sym, ◌∙◌}
use Rattle.std.specs.Cmp.Lexicographic.{bytes_decides}
use Rattle.const_oid.specs.Arcs.{arcs_of}
use Rattle.const_oid.specs.IdentifierOctets.{identifier_octets}
use Rattle.const_oid.proofs.laws.are_equal_borrowed.Goals as goal

pub returns : goal.returns
returns c =
    let test = bytes_decides c.args.a.now.octets.now c.args.b.now.octets.now in (
      λ yes. ap arcs_of (test.0 (sym c.eq.ensures ∙ yes)),
      λ same. c.eq.ensures ∙ test.1 (c.args.a.now.is_spelled ∙ ap identifier_octets same ∙ sym c.args.b.now.is_spelled),
    )
