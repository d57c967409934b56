-- Goals of `time_laws::one_date` that the checker doesn't prove by itself.
use Rattle.der_types_numbers.proofs.SecondsOrders.{one_by_seconds, one_by_text}
use Rattle.der_types_numbers.proofs.time_laws.one_date.Goals as goal

pub returns : goal.returns
returns c = record { by_seconds = one_by_seconds; by_text = one_by_text }
