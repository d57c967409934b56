-- Goals of `octets::check` that the checker doesn't prove by itself.
use Rattle.std.proofs.Common.{Err, ap, sym, ◌∙◌}
use Rattle.std.proofs.lemmas.Result.{err_from_is_err_and}
use Rattle.const_oid.proofs.octets.check.Goals as goal

pub returns-in_err-_found : goal.returns-in_err-_found
returns-in_err-_found c =
    let p = err_from_is_err_and c.from_residual.result c.from_residual.ensures.1 in
    p.1 ∙ ap (λ e. Err e) p.2 ∙ sym c.in_err-_found.ensures

pub returns : goal.returns
returns c = sym c.in_ok-_found.ensures.0
