-- If a timestamp is decoded, the bytes are the encoding of its abstract value, and else of none.
use Rattle.std.proofs.Common.{refl}
use Rattle.std.proofs.lemmas.Result.{err_from_is_err_and}
use Rattle.cert_tool_messages.proofs.timestamps.TimeStampRespDescribeFile.read_file.Goals as goal

pub returns-in_err-from_der-clause-refused : goal.returns-in_err-from_der-clause-refused
returns-in_err-from_der-clause-refused c =
    let p = err_from_is_err_and c.from_residual.result c.from_residual.ensures.1 in
    rw (p.1, p.2) (λ known read. c.in_err-from_der.ensures.refused refl refl known read.0 read.1)

pub returns-clause-spelled : goal.returns-clause-spelled
returns-clause-spelled c = (_, c.in_ok-from_der.ensures.spelled refl)
