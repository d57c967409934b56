-- Goals of `with_default::WithDefaultDecode::decode` that the checker doesn't prove by itself.
use Rattle.std.proofs.Common.{refl, ap}
use Rattle.std.proofs.lemmas.Result.{err_from_is_err_and}
use Rattle.der_core_values.specs.CoreHead.Grammar.{default_at}
use Rattle.der_core_values.specs.CoreHead.Reading.{State}
use Rattle.der_core_values.proofs.CoreOctets.GoingOn.{broken_kept}
use Rattle.der_core_coding.proofs.with_default.WithDefaultDecode.decode.Goals as goal

pub returns-in_err-tag : goal.returns-in_err-tag
unfolding default_at
returns-in_err-tag g c =
    let p = err_from_is_err_and c.from_residual.result c.from_residual.ensures.1 in
    let peeked = c.in_err-tag.ensures.front in
    rw (p.1, p.2) (λ ready memory. rw (peeked.0 ready) refl, broken_kept _ _ c.in_err-tag.ensures.failed, peeked.1, ap (λ (s : State). s.failed) c.in_err-tag.ensures.failed)
