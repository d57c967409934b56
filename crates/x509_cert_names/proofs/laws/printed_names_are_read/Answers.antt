-- Goals of `laws::printed_names_are_read` that the checker doesn't prove by itself.
use Rattle.x509_cert_names.proofs.ReadBack.{name_back, name_itself}
use Rattle.x509_cert_names.proofs.laws.printed_names_are_read.Goals as goal

pub returns : goal.returns
returns c = record { alike = name_back; itself = name_itself }
