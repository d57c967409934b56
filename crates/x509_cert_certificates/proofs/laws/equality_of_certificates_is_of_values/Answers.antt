-- Goals of `laws::equality_of_certificates_is_of_values` that the checker doesn't prove by itself.
use Rattle.der_core.specs.Oid.Bound.{Bound}
use Rattle.der_core.proofs.ValueEquality.{all_alike, alone, behind, default, each, last, leaves, next, option, option_itself}
use Rattle.x509_cert_names.proofs.SameOctets.{names}
use Rattle.x509_cert_parts.proofs.ValueEquality.{algorithms, all_extensions, each_version, keys, validities}
use Rattle.x509_cert_certificates.specs.Certificates.{certificate, tbs_certificate}
use Rattle.x509_cert_certificates.proofs.laws.equality_of_certificates_is_of_values.Goals as goal

pub returns-clause-signed : goal.returns-clause-signed
returns-clause-signed g c = λ limit. all_alike {s = tbs_certificate Bound limit} (λ x y.
    behind (next (default (behind (alone (each_version x.version y.version)))) (next leaves (next (algorithms x.signature y.signature)
    (next (names _ _) (next (validities x.validity y.validity) (next (names _ _) (next (keys x.subject_public_key_info y.subject_public_key_info)
    (next (option_itself (λ v w. leaves) _ _) (next (option_itself (λ v w. leaves) _ _) (last (option (λ v w. behind (alone (all_extensions _ _))) _ _))))))))))))

pub returns-clause-whole : goal.returns-clause-whole
returns-clause-whole g c = λ limit. all_alike {s = certificate Bound limit} (λ x y.
    behind (next (each {s = tbs_certificate Bound limit} (returns-clause-signed g c limit) x.tbs_certificate y.tbs_certificate)
    (next (algorithms x.signature_algorithm y.signature_algorithm) (last leaves))))
