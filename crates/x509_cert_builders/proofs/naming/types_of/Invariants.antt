-- The loop invariants of `naming::types_of`.
use Rattle.std.specs.Slice.Iter.{iter_rest}
use Rattle.x509_cert_certificates.specs.Der.Grammar.{plain_list}
use Rattle.x509_cert_certificates.specs.CertNames.Views.{name_plain}
use Rattle.x509_cert_certificates.specs.CertNames.Pairs.{relative_plain}
use Rattle.x509_cert_builders.proofs.Subjects.{IsChecked}
use Rattle.x509_cert_builders.proofs.naming.types_of.Given as goal

abbrev pub invariant-loop-relative : goal.invariant-loop-relative
invariant-loop-relative l =
    IsChecked l.multiple_allowed (name_plain l.name) l.found (plain_list relative_plain (iter_rest l.relative-iterator))
