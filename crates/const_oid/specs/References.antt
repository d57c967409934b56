-- The abstract values of a borrowed object identifier and of an iterator over arcs.
use Rattle.std.specs.Prelude.{ℕ, List, ◌++◌, option_to_list}
use Rattle.const_oid.specs.declared.object_identifier_ref.ObjectIdentifierRef.{ObjectIdentifierRef}
use Rattle.const_oid.specs.declared.arcs.Arcs.{Arcs}
use Rattle.const_oid.specs.Arcs.{later_arcs, arcs_of}

-- The encoding of a borrowed identifier.
abbrev pub reference_octets : ObjectIdentifierRef → List ℕ
reference_octets oid = oid.octets.now

-- The arcs of a borrowed identifier.
abbrev pub reference_arcs : ObjectIdentifierRef → List ℕ
reference_arcs oid = arcs_of oid.octets.now

-- The arcs that an iterator will still return.
abbrev pub remaining_arcs : Arcs → List ℕ
remaining_arcs arcs = option_to_list arcs.first
    ++ (option_to_list arcs.second ++ later_arcs 0 arcs.later.now)
