-- Goals of `accepting::serial_of` that the checker doesn't prove by itself.
use Rattle.std.proofs.Common.{sym, ap, ◌∙◌}
use Rattle.std.proofs.lemmas.Bool.{both_ways}
use Rattle.cert_desk_orders.specs.CertParts.SerialNumbers.{new_serial}
use Rattle.cert_desk.proofs.accepting.serial_of.Goals as goal

pub returns-else-is_out_of_memory : goal.returns-else-is_out_of_memory
returns-else-is_out_of_memory c = record {
  number = tt;
  refused = λ role key named. (named, (c.in-Err.error.kind, ap new_serial (sym c.as_slice.ensures.value) ∙ c.in-Err.ensures (λ memory. both_ways _ c.if-is_out_of_memory.false (c.is_out_of_memory.ensures.1 memory))));
}
