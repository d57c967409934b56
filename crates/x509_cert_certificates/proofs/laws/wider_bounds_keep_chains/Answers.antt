-- Goals of `laws::wider_bounds_keep_chains` that the checker doesn't prove by itself.
use Rattle.x509_cert_certificates.proofs.Respelled.{chains_wider, chains_new}
use Rattle.x509_cert_certificates.proofs.laws.wider_bounds_keep_chains.Goals as goal

pub returns : goal.returns
returns c = record { kept = chains_wider; new = chains_new }
