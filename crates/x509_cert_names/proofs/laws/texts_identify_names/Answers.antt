-- Goals of `laws::texts_identify_names` that the checker doesn't prove by itself.
use Rattle.x509_cert_names.proofs.ReadBack.{one_text}
use Rattle.x509_cert_names.proofs.laws.texts_identify_names.Goals as goal

pub returns : goal.returns
returns c = one_text
