-- Goals of `laws::texts_are_read_as_one_name` that the checker doesn't prove by itself.
use Rattle.x509_cert_names.proofs.OneName.{one_spelled, spelled_stands}
use Rattle.x509_cert_names.proofs.laws.texts_are_read_as_one_name.Goals as goal

pub returns : goal.returns
returns c = record { one = one_spelled; not_refused = spelled_stands }
