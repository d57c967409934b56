-- The loop invariants of `certificate_type::all_stay`.
use Rattle.std.proofs.Common.{◌≡◌, drop}
use Rattle.std.specs.List.{list_all}
use Rattle.x509_cert_certificates.specs.CertNames.Pairs.{relative_plain}
use Rattle.x509_cert_builders.specs.Subscribers.{may_stay}
use Rattle.x509_cert_builders.proofs.certificate_type.all_stay.Given as goal

abbrev pub invariant-loop-attribute : goal.invariant-loop-attribute
invariant-loop-attribute l = list_all may_stay (relative_plain (drop l.attribute-index l.attributes)) ≡ list_all may_stay (relative_plain l.attributes)
