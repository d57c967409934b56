-- The loop invariants of `name::Name::first_value`.
use Rattle.std.proofs.Common.{◌≡◌}
use Rattle.der_core.specs.Grammar.{plain_list}
use Rattle.x509_cert_names.specs.AttributeTypes.{first_value}
use Rattle.x509_cert_names.specs.Names.{all_of}
use Rattle.x509_cert_names.specs.Pairs.{pair_plain}
use Rattle.x509_cert_names.specs.Views.{attributes_left, name_plain}
use Rattle.x509_cert_names.proofs.name.Name.first_value.Given as goal

abbrev pub invariant-loop-attribute : goal.invariant-loop-attribute
invariant-loop-attribute l =
    goal.iterator-loop-attribute.can_next l.attribute-iterator ×
    goal.iterator-loop-attribute.is_finite l.attribute-iterator ×
    (first_value l.oid (plain_list pair_plain (attributes_left l.attribute-iterator)) ≡ first_value l.oid (all_of (name_plain l.self)))
