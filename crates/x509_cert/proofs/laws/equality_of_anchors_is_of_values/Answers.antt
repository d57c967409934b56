-- Goals of `laws::equality_of_anchors_is_of_values` that the checker doesn't prove by itself.
use Rattle.x509_cert_anchors.specs.Oid.Bound.{Bound}
use Rattle.x509_cert_anchors.proofs.Der.ValueEquality.{alone, behind, default, each, last, leaves, list, named_bits, next, numbers, option}
use Rattle.x509_cert_builders.specs.CertCertificates.Certificates.{certificate, tbs_certificate}
use Rattle.x509_cert_lists.proofs.CertNames.SameOctets.{names}
use Rattle.x509_cert_lists.proofs.CertParts.ValueEquality.{algorithms, all_extensions, keys}
use Rattle.x509_cert.proofs.ValueEquality.{choices, of, versions, whole}
use Rattle.x509_cert.proofs.laws.equality_of_anchors_is_of_values.Goals as goal

pub returns-clause-versions : goal.returns-clause-versions
returns-clause-versions g c = whole versions

pub returns-clause-controls : goal.returns-clause-controls
returns-clause-controls g c = λ limit.
    let parts = each {s = tbs_certificate Bound limit} (c.equality_of_certificates_is_of_values.ensures.signed limit) in
    let policies = of c.equality_of_extensions_is_of_values.ensures.policies.1 in
    let subtrees = of c.equality_of_extensions_is_of_values.ensures.general_names.6 in
    whole (λ x y.
    behind (next (names _ _) (next (option (λ v w. behind (next (parts v.tbs_certificate w.tbs_certificate) (next (algorithms v.signature_algorithm w.signature_algorithm) (last leaves)))) _ _)
    (next (option (λ v w. behind (list policies _ _)) _ _) (next (option (λ v w. named_bits) _ _)
    (next (option (λ v w. behind (next (option (λ v w. behind (list subtrees _ _)) _ _) (last (option (λ v w. behind (list subtrees _ _)) _ _)))) _ _)
    (last (option (λ n m. numbers) _ _))))))))

pub returns-clause-infos : goal.returns-clause-infos
returns-clause-infos g c = λ limit.
    let controls = of (returns-clause-controls g c limit) in
    whole (λ x y.
    behind (next (default (versions x.version y.version)) (next (keys x.pub_key y.pub_key) (next leaves (next (option (λ v w. leaves) _ _) (next (option controls _ _)
    (next (option (λ v w. behind (alone (all_extensions _ _))) _ _) (last (option (λ v w. leaves) _ _)))))))))

pub returns-clause-choices : goal.returns-clause-choices
returns-clause-choices g c = λ limit.
    whole (choices g.row.P limit (each {s = certificate Bound limit} (c.equality_of_certificates_is_of_values.ensures.whole limit))
    (each {s = tbs_certificate Bound limit} (c.equality_of_certificates_is_of_values.ensures.signed limit)) (of (returns-clause-infos g c limit)))
