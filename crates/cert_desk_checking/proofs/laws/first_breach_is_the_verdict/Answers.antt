-- Goals of `laws::first_breach_is_the_verdict` that the checker doesn't prove by itself.
use Rattle.cert_desk_checking.proofs.EachPlace.{refused_at_first, trusted_without}
use Rattle.cert_desk_checking.proofs.laws.first_breach_is_the_verdict.Goals as goal

pub returns-clause-refused : goal.returns-clause-refused
returns-clause-refused c = refused_at_first

pub returns-clause-trusted : goal.returns-clause-trusted
returns-clause-trusted c = trusted_without
