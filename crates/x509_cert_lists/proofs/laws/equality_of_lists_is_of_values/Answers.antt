-- Goals of `laws::equality_of_lists_is_of_values` that the checker doesn't prove by itself.
use Rattle.std.proofs.Common.{refl}
use Rattle.der_core.specs.Oid.Bound.{Bound}
use Rattle.der_core.specs.Shapes.{sequence}
use Rattle.x509_cert_lists.specs.ListGrammar.{cert_req, cert_req_info_fields, certificate_list_fields, revoked_cert_fields, tbs_cert_list_fields}
use Rattle.der_core.proofs.ValueEquality.{all_alike, alone, behind, each, exact, last, leaves, list, next, option, set}
use Rattle.x509_cert_names.proofs.SameOctets.{attributes, names}
use Rattle.x509_cert_parts.proofs.ValueEquality.{algorithms, all_extensions, each_time, each_version, keys}
use Rattle.x509_cert_lists.proofs.laws.equality_of_lists_is_of_values.Goals as goal

pub returns-clause-asked_extensions : goal.returns-clause-asked_extensions
returns-clause-asked_extensions g c = all_alike (λ x y. all_extensions x.0.items y.0.items)

pub returns-clause-entries : goal.returns-clause-entries
returns-clause-entries g c = λ limit. all_alike {s = sequence (revoked_cert_fields Bound limit)} (λ x y.
    behind (next leaves (next (each_time x.revocation_date y.revocation_date) (last (option (λ v w. all_extensions _ _) _ _)))))

pub returns-clause-signed : goal.returns-clause-signed
returns-clause-signed g c = λ limit. all_alike {s = sequence (tbs_cert_list_fields Bound limit)} (λ x y.
    behind (next (each_version x.version y.version) (next (algorithms x.signature y.signature) (next (names _ _)
    (next (each_time x.this_update y.this_update) (next (option each_time _ _)
    (next (option (λ v w. behind (list (each {s = sequence (revoked_cert_fields Bound limit)} (returns-clause-entries g c limit)) _ _)) _ _)
    (last (option (λ v w. behind (alone (all_extensions _ _))) _ _)))))))))

pub returns-clause-whole : goal.returns-clause-whole
returns-clause-whole g c = λ limit. all_alike {s = sequence (certificate_list_fields Bound limit)} (λ x y.
    behind (next (each {s = sequence (tbs_cert_list_fields Bound limit)} (returns-clause-signed g c limit) x.tbs_cert_list y.tbs_cert_list)
    (next (algorithms x.signature_algorithm y.signature_algorithm) (last leaves))))

pub returns-clause-asked : goal.returns-clause-asked
returns-clause-asked g c = all_alike {s = sequence (cert_req_info_fields Bound)} (λ x y.
    behind (next (exact (λ e. refl) (λ e. refl)) (next (names _ _) (next (keys x.public_key y.public_key) (last (behind (set attributes _ _)))))))

pub returns-clause-requests : goal.returns-clause-requests
returns-clause-requests g c = all_alike {s = cert_req Bound} (λ x y.
    behind (next (each {s = sequence (cert_req_info_fields Bound)} (returns-clause-asked g c) x.info y.info)
    (next (algorithms x.algorithm y.algorithm) (last leaves))))
