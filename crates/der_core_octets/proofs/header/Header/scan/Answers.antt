-- Goals of `header::Header::scan` that the checker doesn't prove by itself.
use Rattle.std.proofs.Common.{Some, Ok, Err}
use Rattle.der_core_octets.proofs.LongLengths.{scans_longer}
use Rattle.der_core_octets.proofs.header.Header.scan.Goals as goal

pub returns-in-Ok-clause-longer : goal.returns-in-Ok-clause-longer
returns-in-Ok-clause-longer c = λ other more. scans_longer c.args.octets.now more (Ok (Some c.in-Ok.front)) c.in-Ok.ensures other

pub returns-in_default : goal.returns-in_default
returns-in_default c = record {
  exact = (c.in-Err.ensures, c.in_default.not-Incomplete);
  longer = λ other more. scans_longer c.args.octets.now more (Err c.in-Err.error) (c.in-Err.ensures, c.in_default.not-Incomplete) other;
}
