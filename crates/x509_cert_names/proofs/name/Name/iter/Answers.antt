-- Goals of `name::Name::iter` that the checker doesn't prove by itself.
use Rattle.x509_cert_names.specs.Pairs.{pair_plain}
use Rattle.x509_cert_names.proofs.Lists.{plain_all}
use Rattle.x509_cert_names.proofs.name.Name.iter.Goals as goal

pub returns : goal.returns
returns c = rw (c.as_slice.ensures.value, c.iter.ensures) (plain_all pair_plain c.args.self.now.rdn_sequence.relative_names.items)
