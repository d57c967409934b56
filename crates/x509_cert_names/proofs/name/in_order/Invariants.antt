-- The loop invariants of `name::in_order`.
use Rattle.std.proofs.Common.{drop}
use Rattle.std.specs.List.{AllByRecursion}
use Rattle.der_core.specs.Oid.Bound.{Bound}
use Rattle.x509_cert_names.specs.Ordered.{IsOrdered}
use Rattle.x509_cert_names.proofs.name.in_order.Given as goal

abbrev pub invariant-loop-relative_name : goal.invariant-loop-relative_name
invariant-loop-relative_name l =
    AllByRecursion (IsOrdered Bound) (drop l.relative_name-index l.relative_names) → AllByRecursion (IsOrdered Bound) l.relative_names
