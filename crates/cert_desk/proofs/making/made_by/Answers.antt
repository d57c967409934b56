-- Goals of `making::made_by` that the checker doesn't prove by itself.
use Rattle.std.proofs.Common.{◌≤◌, ℕ, List, length, sym, ◌∙◌, subst}
use Rattle.std.proofs.lemmas.Result.{err_from_is_err_and}
use Rattle.cert_desk_listing.specs.Oid.Bound.{Bound}
use Rattle.std.specs.Prelude.{Some}
use Rattle.cert_desk_listing.specs.Der.BitStrings.{Bits}
use Rattle.cert_desk_listing.specs.Der.Integers.{integer_octets}
use Rattle.cert_desk_listing.specs.Der.Ranges.{IsInRange}
use Rattle.cert_desk_listing.specs.Der.Shapes.{IsValid}
use Rattle.cert_desk_listing.proofs.Der.Written.{written_valid}
use Rattle.x509_cert_builders.specs.SignedParts.{part_shape}
use Rattle.x509_cert_builders.specs.States.{part_for, as_written}
use Rattle.cert_desk_listing.specs.CertCertificates.Certificates.{Tbs, signature_bits, certificate}
use Rattle.cert_desk_listing.specs.CertCertificates.Views.{certificate_plain}
use Rattle.cert_desk_orders.specs.CertParts.Grammar.{Algorithm, algorithm_identifier, bit_string}
use Rattle.cert_desk.specs.declared.stop.Stop.{Stop}
use Rattle.cert_desk.specs.Refusals.{Stops}
use Rattle.cert_desk.proofs.SignedParts.{made_of, not_built, unwritten}
use Rattle.cert_desk.proofs.making.made_by.Goals as goal

pub returns-in_err-certificate : goal.returns-in_err-certificate
returns-in_err-certificate g c = λ role dns t same.
    let s = c.args.signer.now in
    let signs = g.S.Signer.signs s in
    let a = g.S.Signer.signs_by s in
    let may_refuse = g.S.Signer.may_refuse s in
    let part = part_for g.P.BuilderProfile.extensions c.args.builder (g.S.Signer.public_key s) a in
    let e = c.in_err-certificate.field-0.0 in
    let p = err_from_is_err_and c.from_residual.result c.from_residual.ensures.1 in
    let built = not_built may_refuse signs a role dns part c.requires.serial e (g.P.BuilderProfile.refuses c.args.builder.profile e) (c.requires.willing e) c.in_err-certificate.ensures.refused in
    rw p.1 (subst (λ (u : Tbs). Stops may_refuse signs a role dns u p.0) same (subst (λ (x : Stop). Stops may_refuse signs a role dns part x) (sym p.2) built))

pub returns-in_err-octets : goal.returns-in_err-octets
returns-in_err-octets g c = λ role dns t same.
    let s = c.args.signer.now in
    let signs = g.S.Signer.signs s in
    let a = g.S.Signer.signs_by s in
    let may_refuse = g.S.Signer.may_refuse s in
    let x = c.in_ok-certificate in
    let made = as_written (certificate_plain x.certificate) in
    let given = subst (λ (w : List ℕ). signs w (signature_bits made)) x.ensures.octets x.ensures.signed in
    let short = subst (λ (u : Tbs). length (integer_octets u.1.0) ≤ 20) same c.requires.serial in
    let bits = subst (λ (b : Bits). IsInRange bit_string b) c.signature.ensures c.in_range-2.ensures in
    let p = err_from_is_err_and c.from_residual-in_err-octets.result c.from_residual-in_err-octets.ensures.1 in
    rw p.1 (subst (λ (y : Stop). Stops may_refuse signs a role dns t y) (sym p.2)
    (unwritten a signs made t (x.ensures.part ∙ same) short may_refuse role dns _ c.in_err-octets.field-0.0.kind x.ensures.algorithm given bits c.in_err-octets.ensures.spelled))

pub returns : goal.returns
returns g c = λ role dns t same.
    let s = c.args.signer.now in
    let signs = g.S.Signer.signs s in
    let a = g.S.Signer.signs_by s in
    let x = c.in_ok-certificate in
    let made = as_written (certificate_plain x.certificate) in
    let given = subst (λ (w : List ℕ). signs w (signature_bits made)) x.ensures.octets x.ensures.signed in
    let short = subst (λ (u : Tbs). length (integer_octets u.1.0) ≤ 20) same c.requires.serial in
    let valid = subst (λ (u : Tbs). IsValid part_shape u) same x.ensures.valid in
    let algorithm = subst (λ (b : Algorithm). IsInRange (algorithm_identifier Bound) b) c.signature_algorithm.ensures c.in_range.ensures in
    let bits = subst (λ (b : Bits). IsInRange bit_string b) c.signature.ensures c.in_range-2.ensures in
    made_of a signs made t (x.ensures.part ∙ same) short c.in_ok-octets.octets.items x.ensures.algorithm given valid algorithm bits c.in_ok-octets.ensures.octets.0
    (λ h. written_valid (certificate Bound (Some 21)) made _ _ c.in_ok-octets.ensures.exact h)
