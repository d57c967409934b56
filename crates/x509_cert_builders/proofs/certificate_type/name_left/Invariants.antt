-- The loop invariants of `certificate_type::name_left`.
use Rattle.std.specs.Slice.Iter.{iter_rest}
use Rattle.x509_cert_certificates.specs.Der.Grammar.{plain_list}
use Rattle.x509_cert_certificates.specs.CertNames.Views.{name_plain}
use Rattle.x509_cert_certificates.specs.CertNames.Pairs.{relative_plain}
use Rattle.x509_cert_builders.proofs.Subjects.{IsLeft}
use Rattle.x509_cert_builders.proofs.certificate_type.name_left.Given as goal

abbrev pub invariant-loop-relative : goal.invariant-loop-relative
invariant-loop-relative l = IsLeft (name_plain l.name) (plain_list relative_plain l.kept.relative_names.items) (plain_list relative_plain (iter_rest l.relative-iterator))
