-- The forms of timestamps and of their parts (RFC 6962 3.2; RFC 5246 4.7, 7.4.1.4.1), and the
-- abstract values of the types.
use Rattle.x509_cert_policies.specs.Forms.{Form, Plain, named, long, exactly, vector, pair}
use Rattle.x509_cert_policies.specs.Numbers.{hash_number, hash_numbers, signature_number}
use Rattle.x509_cert_policies.specs.Numbers.{signature_numbers, version_number, version_numbers}
use Rattle.x509_cert_policies.specs.declared.signature_and_hash_algorithm.SignatureAndHashAlgorithm.{SignatureAndHashAlgorithm}
use Rattle.x509_cert_policies.specs.declared.digitally_signed.DigitallySigned.{DigitallySigned}
use Rattle.x509_cert_policies.specs.declared.signed_certificate_timestamp.SignedCertificateTimestamp.{SignedCertificateTimestamp}

abbrev pub algorithm_form : Form
algorithm_form = pair (named hash_numbers) (named signature_numbers)

abbrev pub algorithms_plain : SignatureAndHashAlgorithm → Plain algorithm_form
algorithms_plain a = (hash_number a.hash, signature_number a.signature)

abbrev pub signed_form : Form
signed_form = pair algorithm_form vector

abbrev pub signed_plain : DigitallySigned → Plain signed_form
signed_plain s = (algorithms_plain s.algorithm, s.signature.items)

abbrev pub timestamp_form : Form
timestamp_form =
    pair (named version_numbers) (pair (exactly 32) (pair long (pair vector signed_form)))

abbrev pub timestamp_plain : SignedCertificateTimestamp → Plain timestamp_form
timestamp_plain t = (
  version_number t.version,
  (t.log_id.key_id, (t.timestamp, (t.extensions.items, signed_plain t.signature))),
)
