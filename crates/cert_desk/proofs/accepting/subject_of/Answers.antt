-- Goals of `accepting::subject_of` that the checker doesn't prove by itself.
use Rattle.std.proofs.lemmas.Result.{err_from_is_err_and}
use Rattle.cert_desk.proofs.accepting.subject_of.Goals as goal

pub returns-in_err-subject-clause-refused : goal.returns-in_err-subject-clause-refused
returns-in_err-subject-clause-refused c = λ key.
    let p = err_from_is_err_and c.from_residual.result c.from_residual.ensures.1 in
    rw (p.1, p.2) (c.in_err-subject.ensures.refused c.args.role key)
