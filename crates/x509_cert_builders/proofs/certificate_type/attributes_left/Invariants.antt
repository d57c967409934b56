-- The loop invariants of `certificate_type::attributes_left`.
use Rattle.std.proofs.Common.{◌≡◌, ◌++◌}
use Rattle.std.specs.Slice.Iter.{iter_rest}
use Rattle.x509_cert_certificates.specs.CertNames.Pairs.{relative_plain}
use Rattle.x509_cert_builders.specs.Subscribers.{KeepsDistinct, left_of}
use Rattle.x509_cert_builders.proofs.certificate_type.attributes_left.Given as goal

abbrev pub invariant-loop-attribute : goal.invariant-loop-attribute
invariant-loop-attribute l = record {
  left : relative_plain l.left.items ++ left_of (relative_plain (iter_rest l.attribute-iterator)) ≡ left_of (relative_plain l.relative);
  distinct : KeepsDistinct l.relative (l.left.items ++ iter_rest l.attribute-iterator);
}
