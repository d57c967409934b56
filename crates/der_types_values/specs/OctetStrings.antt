-- The abstract values of `OctetString` and `OctetStringRef`: the bytes.
use Rattle.std.specs.Prelude.{ℕ, List}
use Rattle.der_types_values.specs.declared.octet_string.OctetString.TheInside.{Inside}
use Rattle.der_types_values.specs.declared.octet_string_ref.OctetStringRef.{OctetStringRef}

abbrev pub octets_kept : Inside → List ℕ
octets_kept o = o.bytes

abbrev pub octets_lent : OctetStringRef → List ℕ
octets_lent o = o.bytes.now
