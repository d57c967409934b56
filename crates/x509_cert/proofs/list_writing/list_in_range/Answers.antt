-- Goals of `list_writing::list_in_range` that the checker doesn't prove by itself.
use Rattle.std.proofs.Common.{arith}
use Rattle.x509_cert.proofs.list_writing.list_in_range.Goals as goal

pub returns : goal.returns
returns g c =
    ((c.in_range.ensures, (c.in_range-2.ensures, (c.in_range-3.ensures, (c.in_range-4.ensures, (c.in_range-5.ensures, (c.revoked_in_range.ensures, (c.field_in_range.ensures, tt))))))), omega arith)
