-- The abstract values of an attribute with one value and of an RDN, and their equality and hash.
use Rattle.std.specs.Prelude.{◌≡◌, ℕ, List, ◌++◌, Bool, true, nat_eq, ◌&&◌}
use Rattle.std.proofs.Common.{ap, ◌∙◌}
use Rattle.std.specs.Cmp.{IsEquivalence, and_equiv}
use Rattle.std.specs.Cmp.{on_equiv, first_so, second_so}
use Rattle.std.specs.Cmp.Lexicographic.{pointwise, bytes_decides, nat_list_eq_equiv}
use Rattle.std.specs.Hash as fed
use Rattle.der_core.specs.Oid.IdentifierOctets.{identifier_octets}
use Rattle.der_core.specs.Grammar.{plain_list}
use Rattle.der_core.specs.Shapes.{AnyValue}
use Rattle.der_types.specs.AnyOrders.{any_key, any_fed, any_fed_alike}
use Rattle.x509_cert_names.specs.Names.{TypeAndValue, RelativeName}
use Rattle.x509_cert_names.specs.declared.attribute_type_and_value.AttributeTypeAndValue.{AttributeTypeAndValue}

-- The abstract value of an attribute with this type and this value.
abbrev pub pair : List ℕ → AnyValue → TypeAndValue
pair arcs value = (arcs, (value, tt))

-- The abstract value of an attribute with one value.
abbrev pub pair_plain : AttributeTypeAndValue → TypeAndValue
pair_plain a = (a.oid, (a.value, tt))

-- Two attributes have equal types and equal values.
abbrev pub same_pair : AttributeTypeAndValue → AttributeTypeAndValue → Bool
same_pair a b = pointwise nat_eq (identifier_octets a.oid) (identifier_octets b.oid)
    && pointwise nat_eq (any_key a.value) (any_key b.value)

pub same_pair_equiv : IsEquivalence same_pair
same_pair_equiv = and_equiv (on_equiv (λ a. identifier_octets a.oid) nat_list_eq_equiv)
    (on_equiv (λ a. any_key a.value) nat_list_eq_equiv)

-- The bytes that a hasher receives for an attribute.
abbrev pub pair_fed : AttributeTypeAndValue → fed.HashWrites
pair_fed a = fed.slice fed.u8 (identifier_octets a.oid) ++ any_fed a.value

pub pair_fed_alike : (a b : AttributeTypeAndValue) → same_pair a b ≡ true → pair_fed a ≡ pair_fed b
pair_fed_alike a b e =
    let types = pointwise nat_eq (identifier_octets a.oid) (identifier_octets b.oid) in
    let values = pointwise nat_eq (any_key a.value) (any_key b.value) in
    ap (λ w. fed.slice fed.u8 w ++ any_fed a.value)
    ((bytes_decides (identifier_octets a.oid) (identifier_octets b.oid)).0
    (first_so types values e))
    ∙ ap (λ w. fed.slice fed.u8 (identifier_octets b.oid) ++ w)
    (any_fed_alike a.value b.value (second_so types values e))

-- The abstract value of an RDN: its attributes in the order of their encodings.
abbrev pub relative_plain : List AttributeTypeAndValue → RelativeName
relative_plain r = plain_list pair_plain r
