-- Goals of `relative_distinguished_name::RelativeDistinguishedName::default` that the checker
-- doesn't prove by itself.
use Rattle.x509_cert_names.proofs.SameOctets.{none_distinct}
use Rattle.x509_cert_names.proofs.relative_distinguished_name.RelativeDistinguishedName.default.Goals as goal

pub invariant_of-result : goal.invariant_of-result
invariant_of-result c = rw (c.of.ensures, c.new.ensures.items) (none_distinct, tt)
