-- Goals of `algorithm_identifier::AlgorithmIdentifier::has_octets_of` that the checker doesn't
-- prove by itself.
use Rattle.std.proofs.Common.{sym, ◌∙◌}
use Rattle.x509_cert_parts.proofs.ValueEquality.{algorithms}
use Rattle.x509_cert_parts.proofs.algorithm_identifier.AlgorithmIdentifier.has_octets_of.Goals as goal

pub returns-clause-same : goal.returns-clause-same
returns-clause-same c = λ t. (algorithms c.args.self.now c.args.other.now).encoding (sym c.eq.ensures ∙ t)

pub returns-clause-differ : goal.returns-clause-differ
returns-clause-differ c = λ e. c.eq.ensures ∙ (algorithms c.args.self.now c.args.other.now).itself e
