-- The abstract value of each type of this crate, as a value of its shape in `Names`.
use Rattle.std.specs.Prelude.{List, ◌++◌, flat_map}
use Rattle.der_core.specs.Grammar.{plain_list}
use Rattle.x509_cert_names.specs.Names.{PlainAttribute, PlainName}
use Rattle.x509_cert_names.specs.Pairs.{relative_plain}
use Rattle.x509_cert_names.specs.declared.attribute.Attribute.{Attribute}
use Rattle.x509_cert_names.specs.declared.attribute_type_and_value.AttributeTypeAndValue.{AttributeTypeAndValue}
use Rattle.x509_cert_names.specs.declared.name.Name.{Name}
use Rattle.x509_cert_names.specs.declared.name_iter.NameIter.{NameIter}
use Rattle.x509_cert_names.specs.declared.rdn_sequence.RdnSequence.{RdnSequence}

abbrev pub attribute_plain : Attribute → PlainAttribute
attribute_plain a = (a.oid, (a.values.values.items, tt))

abbrev pub sequence_plain : RdnSequence → PlainName
sequence_plain s = plain_list relative_plain s.relative_names.items

abbrev pub name_plain : Name → PlainName
name_plain n = sequence_plain n.rdn_sequence

-- The attributes that an iterator hasn't yielded yet.
abbrev pub attributes_left : NameIter → List AttributeTypeAndValue
attributes_left it = it.attributes.now ++ flat_map (λ r. r) it.left.now
