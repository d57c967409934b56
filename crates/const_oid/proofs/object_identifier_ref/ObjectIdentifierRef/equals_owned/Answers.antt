-- Goals of `object_identifier_ref::ObjectIdentifierRef::equals_owned` that the checker doesn't
-- prove by itself.
use Rattle.std.proofs.Common.{ap, sym, ◌∙◌}
use Rattle.std.specs.Cmp.Lexicographic.{bytes_decides}
use Rattle.const_oid.specs.Bound.{Bound}
use Rattle.const_oid.specs.IdentifierOctets.{identifier_octets}
use Rattle.const_oid.specs.References.{reference_arcs}
use Rattle.const_oid.proofs.PrefixLaws.{same_octets}
use Rattle.const_oid.proofs.object_identifier_ref.ObjectIdentifierRef.equals_owned.Goals as goal

pub returns : goal.returns
returns g c =
    let mine = c.as_bytes-octets.ensures in
    let other = c.as_bytes.ensures in
    let test = bytes_decides c.as_bytes-octets.result.now c.as_bytes.result.now in
    record {
      arcs = (
        λ yes. same_octets Bound (reference_arcs c.args.self.now) c.args.other.now mine.identifier other.identifier (sym mine.arcs ∙ test.0 (sym c.eq.ensures ∙ yes) ∙ other.octets),
        λ same. c.eq.ensures ∙ test.1 (mine.arcs ∙ ap identifier_octets same ∙ sym other.octets),
      );
    }
