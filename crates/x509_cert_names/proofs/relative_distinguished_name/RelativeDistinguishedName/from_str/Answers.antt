-- Goals of `relative_distinguished_name::RelativeDistinguishedName::from_str` that the checker
-- doesn't prove by itself.
use Rattle.std.proofs.Common.{Err, inl, inr, sym, subst}
use Rattle.std.proofs.lemmas.Result.{err_from_is_err_and}
use Rattle.der_core.specs.Oid.Bound.{Bound}
use Rattle.x509_cert_names.specs.NameTexts.{ReadsRelative}
use Rattle.x509_cert_names.proofs.relative_distinguished_name.RelativeDistinguishedName.from_str.Goals as goal

pub returns-in_err-attributes : goal.returns-in_err-attributes
returns-in_err-attributes c =
    let p = err_from_is_err_and c.from_residual.result c.from_residual.ensures.1 in
    rw (p.1, p.2) (λ n. ReadsRelative.refused _ (c.in_err-attributes.ensures n))

pub returns-in_err-relative : goal.returns-in_err-relative
returns-in_err-relative c =
    let p = err_from_is_err_and c.from_residual-in_err-relative.result c.from_residual-in_err-relative.ensures.1 in
    let members = c.in_ok-attributes.attributes.items in
    rw (p.1, p.2) (λ n. elim c.in_err-relative.ensures.refused [
      | inl d ↦ subst (λ k. ReadsRelative Bound c.args.text.now (Err k)) (sym d.0) (ReadsRelative.twice members c.in_ok-attributes.ensures d.1)
      | inr t ↦ subst (λ k. ReadsRelative Bound c.args.text.now (Err k)) (sym t.kind) (ReadsRelative.too_long members c.in_ok-attributes.ensures t.some)
    ])

pub returns : goal.returns
returns c =
    let ordered = c.in_ok-relative.ensures.ordered in
    ReadsRelative.set c.in_ok-attributes.attributes.items c.in_ok-relative.relative c.in_ok-attributes.ensures c.in_ok-relative.ensures.ok ordered.1 ordered.0 c.in_ok-relative.ensures.valid
