-- The loop invariants of `relative_distinguished_name::have_encodings`.
use Rattle.std.proofs.Common.{drop}
use Rattle.der_core.specs.Oid.Bound.{Bound}
use Rattle.der_core.specs.Placed.{AllValid}
use Rattle.x509_cert_names.specs.Names.{type_and_value}
use Rattle.x509_cert_names.specs.Pairs.{pair_plain}
use Rattle.x509_cert_names.proofs.relative_distinguished_name.have_encodings.Given as goal

abbrev pub invariant-loop-attribute : goal.invariant-loop-attribute
invariant-loop-attribute l =
    AllValid (type_and_value Bound) pair_plain (drop l.attribute-index l.attributes) → AllValid (type_and_value Bound) pair_plain l.attributes
