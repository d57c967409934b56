-- Goals of `certificate_type::left_of` that the checker doesn't prove by itself.
use Rattle.std.proofs.Common.{inr, subst}
use Rattle.std.specs.List.{IsDistinct}
use Rattle.std.proofs.lemmas.Result.{err_from_is_err_and}
use Rattle.x509_cert_certificates.specs.CertNames.Pairs.{pair_plain, same_pair}
use Rattle.x509_cert_builders.proofs.Subjects.{too_long}
use Rattle.x509_cert_builders.proofs.certificate_type.left_of.Goals as goal

pub returns-in_err-try_from_vec-clause-long : goal.returns-in_err-try_from_vec-clause-long
returns-in_err-try_from_vec-clause-long c =
    let p = err_from_is_err_and c.from_residual-in_err-try_from_vec.result c.from_residual-in_err-try_from_vec.ensures.1 in
    let apart = c.in_ok-attributes.ensures.distinct same_pair (subst (IsDistinct same_pair) c.as_slice.ensures.attributes c.as_slice.ensures.distinct) in
    rw (p.1, p.2) (inr (too_long pair_plain c.in_ok-attributes.attributes.items _ c.in_err-try_from_vec.field-0.0 _ _ c.in_ok-attributes.ensures.left apart c.in_err-try_from_vec.ensures.refused (λ long. (long.kind, long.some))))
