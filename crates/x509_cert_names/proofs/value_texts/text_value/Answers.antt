-- Goals of `value_texts::text_value` that the checker doesn't prove by itself.
use Rattle.std.proofs.Common.{◌≡◌, ◌<◌, ◌≤◌, ℕ, List, length, Ok, Err, refl, arith}
use Rattle.std.proofs.lemmas.Bool.Decides.{nat_tests}
use Rattle.std.proofs.lemmas.Result.{err_from_is_err_and}
use Rattle.der_core.specs.Limits.{length_max}
use Rattle.der_core.specs.Shapes.{AnyValue}
use Rattle.der_core.specs.ErrorTypes.ErrorKind.{ErrorKind}
use Rattle.der_core.specs.ErrorTypes.ErrorKind.TheVariants as kinds
use Rattle.der_core.specs.TagTypes.Tag.{Tag}
use Rattle.x509_cert_names.specs.ValueTexts.{of_content}
use Rattle.x509_cert_names.proofs.value_texts.text_value.Goals as goal

too_long : (t : Tag) (w : List ℕ) (e : ErrorKind) (n : ℕ) → n ≡ length w → length_max < n → e ≡ kinds.Overflow → Err e ≡ of_content t w
too_long t w e n same lt is = grind (arith, nat_tests)

counted : (t u : Tag) (w : List ℕ) (a : AnyValue) (n : ℕ) → n ≡ length w → n ≤ length_max → u ≡ t → a ≡ record { tag = u; contents = w } → Ok a ≡ of_content t w
counted t u w a n same le tag is = grind (arith, nat_tests)

pub returns-in_err-octets : goal.returns-in_err-octets
returns-in_err-octets c =
    let p = err_from_is_err_and c.from_residual.result c.from_residual.ensures.1 in
    rw (p.1, p.2) (λ n. (Err _, c.in_err-octets.ensures n, refl))

pub returns-in_err-new : goal.returns-in_err-new
returns-in_err-new c =
    let p = err_from_is_err_and c.from_residual-in_err-new.result c.from_residual-in_err-new.ensures.1 in
    let long = c.in_err-new.ensures.err in
    rw (p.1, p.2) (λ n. (Ok c.in_ok-octets.octets.items, c.in_ok-octets.ensures, too_long _ _ _ _ c.in_ok-octets.octets.ok.0 long.0 long.1))

pub returns : goal.returns
returns c =
    let made = c.in_ok-new.ensures.ok in
    (Ok c.in_ok-octets.octets.items, c.in_ok-octets.ensures, counted _ _ _ _ _ c.in_ok-octets.octets.ok.0 (omega (arith, made.0)) c.tag_for.ensures made.1)
