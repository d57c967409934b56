-- Goals of `laws::wider_bounds_keep_names` that the checker doesn't prove by itself.
use Rattle.x509_cert_names.proofs.NameBounds.{names_exactly, whole_names_wider}
use Rattle.x509_cert_names.proofs.laws.wider_bounds_keep_names.Goals as goal

pub returns : goal.returns
returns c = record { exact = names_exactly; whole = whole_names_wider }
