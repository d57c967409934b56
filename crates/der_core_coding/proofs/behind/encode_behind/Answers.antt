-- Goals of `behind::encode_behind` that the checker doesn't prove by itself.
use Rattle.std.proofs.Common.{[], ◌∷◌, refl}
use Rattle.std.proofs.lemmas.Result.{err_from_is_err_and}
use Rattle.der_core_values.proofs.CoreOctets.Added.{put_then_added, write_adds}
use Rattle.der_core_coding.proofs.Fronts.{first_refused, writes_both}
use Rattle.der_core_coding.proofs.behind.encode_behind.Goals as goal

pub returns-in_err-write_byte-clause-exact : goal.returns-in_err-write_byte-clause-exact
returns-in_err-write_byte-clause-exact g c =
    let p = err_from_is_err_and c.from_residual.result c.from_residual.ensures.1 in
    rw (p.1, p.2) (first_refused g.W.Writer.takes_memory (c.args.first ∷ []) c.args.octets.now _ _ c.in_err-write_byte.ensures.exact)

pub returns-clause-exact : goal.returns-clause-exact
returns-clause-exact g c = writes_both g.W.Writer.takes_memory (c.args.first ∷ []) c.args.octets.now _ _ _ _ c.in_ok-write_byte.ensures.exact c.write.ensures.exact

pub returns-clause-front : goal.returns-clause-front
returns-clause-front g c =
    put_then_added (c.args.first ∷ []) c.args.octets.now _ _ _ c.in_ok-write_byte.ensures.exact (write_adds _ _ _ _ _ _ c.write.ensures.exact c.write.ensures.refused refl)
