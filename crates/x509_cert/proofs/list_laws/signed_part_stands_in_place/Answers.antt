-- Goals of `list_laws::signed_part_stands_in_place` that the checker doesn't prove by itself.
use Rattle.x509_cert_anchors.specs.Oid.Bound.{Bound}
use Rattle.x509_cert_anchors.specs.Der.Shapes.{field, done}
use Rattle.x509_cert_lists.specs.CertParts.Grammar.{algorithm_identifier, bit_string}
use Rattle.x509_cert_builders.proofs.CertCertificates.Places.{first_in_place}
use Rattle.x509_cert.specs.Signed.{signed_start, signed_length}
use Rattle.x509_cert.proofs.list_laws.signed_part_stands_in_place.Goals as goal

pub returns : goal.returns
unfolding signed_start signed_length
returns c = λ s v. first_in_place s (field (algorithm_identifier Bound) (field bit_string done)) v
