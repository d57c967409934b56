-- Goals of `reader::Reader::read_value` that the checker doesn't prove by itself.
use Rattle.std.proofs.lemmas.Result.{err_from_is_err_and}
use Rattle.der_core_octets.proofs.reader.Reader.read_value.Goals as goal

pub returns-in_err-value-clause-reads : goal.returns-in_err-value-clause-reads
returns-in_err-value-clause-reads g c = λ b view calls.
    let p = err_from_is_err_and c.from_residual.result c.from_residual.ensures.1 in
    rw (p.1, p.2) (c.in_err-value.ensures.reads c.args.header.tag b view calls)

pub returns-clause-reads : goal.returns-clause-reads
returns-clause-reads g c = λ b view calls. c.in_ok-value.ensures.reads c.args.header.tag b view calls
