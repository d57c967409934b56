-- The storage of an RDN's attributes.
use Rattle.std.specs.Prelude.{List, [], ◌∷◌}
use Rattle.x509_cert_names.specs.declared.attribute_type_and_value.AttributeTypeAndValue.{AttributeTypeAndValue}
use Rattle.x509_cert_names.specs.declared.attribute_set.Store.{Store}
use Rattle.x509_cert_names.specs.declared.attribute_set.Store.TheVariants.{One, Many}

-- The attributes that are stored: one inline, or those in the list.
abbrev pub stored : Store → List AttributeTypeAndValue
stored (One a) = a ∷ []
stored (Many s) = s.values.items
