-- Goals of `options::OptionDecode::decode` that the checker doesn't prove by itself.
use Rattle.std.proofs.Common.{refl, ap}
use Rattle.std.proofs.lemmas.Result.{err_from_is_err_and}
use Rattle.der_core_octets.specs.CoreHead.Grammar.{opt_at}
use Rattle.der_core_octets.specs.CoreHead.Reading.{State}
use Rattle.der_core_octets.proofs.GoingOn.{broken_kept}
use Rattle.der_core_values.proofs.options.OptionDecode.decode.Goals as goal

pub returns-in_err-tag : goal.returns-in_err-tag
unfolding opt_at
returns-in_err-tag g c =
    let p = err_from_is_err_and c.from_residual.result c.from_residual.ensures.1 in
    let peeked = c.in_err-tag.ensures.front in
    let failed = c.in_err-tag.ensures.failed in
    rw (p.1, p.2) (λ ready memory. rw (peeked.0 ready) refl, broken_kept _ _ failed, peeked.1, ap (λ (s : State). s.failed) failed)
