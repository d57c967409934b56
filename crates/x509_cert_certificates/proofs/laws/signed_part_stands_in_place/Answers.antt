-- Goals of `laws::signed_part_stands_in_place` that the checker doesn't prove by itself.
use Rattle.der_core.specs.Shapes.{field, done}
use Rattle.x509_cert_parts.specs.Grammar.{algorithm_identifier, bit_string}
use Rattle.x509_cert_certificates.specs.Certificates.{raw_tbs_certificate, signed_start, signed_length}
use Rattle.x509_cert_certificates.proofs.Places.{first_in_place}
use Rattle.x509_cert_certificates.proofs.laws.signed_part_stands_in_place.Goals as goal

pub returns : goal.returns
unfolding signed_start signed_length
returns c = λ bound v. first_in_place (raw_tbs_certificate bound) (field (algorithm_identifier bound) (field bit_string done)) v
