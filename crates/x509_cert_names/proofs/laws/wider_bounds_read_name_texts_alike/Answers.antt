-- Goals of `laws::wider_bounds_read_name_texts_alike` that the checker doesn't prove by itself.
use Rattle.x509_cert_names.proofs.TextBounds.{spelled_wider, spelled_valid}
use Rattle.x509_cert_names.proofs.laws.wider_bounds_read_name_texts_alike.Goals as goal

pub returns : goal.returns
returns c = record { same = spelled_wider; valid = spelled_valid }
