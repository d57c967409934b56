-- Goals of `laws::spellings_are_read` that the checker doesn't prove by itself.
use Rattle.x509_cert_policies.proofs.Readings.{spelled_once, spelled_not_refused, spelled_whole, refused_once}
use Rattle.x509_cert_policies.proofs.laws.spellings_are_read.Goals as goal

pub returns : goal.returns
returns c = record { once = spelled_once; read = spelled_not_refused; whole = spelled_whole; refused = refused_once }
