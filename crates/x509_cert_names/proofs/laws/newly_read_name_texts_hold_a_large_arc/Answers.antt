-- Goals of `laws::newly_read_name_texts_hold_a_large_arc` that the checker doesn't prove by itself.
use Rattle.x509_cert_names.proofs.TextBounds.{spelled_exactly, spelled_new}
use Rattle.x509_cert_names.proofs.laws.newly_read_name_texts_hold_a_large_arc.Goals as goal

pub returns : goal.returns
returns c = record { exact = spelled_exactly; new = spelled_new }
