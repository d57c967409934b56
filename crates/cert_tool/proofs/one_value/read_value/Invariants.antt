-- The loop invariant of `one_value::read_value`: the bytes so far were read without a failure, and
-- they are within the limits.
use Rattle.std.proofs.Common.{◌≡◌, ◌≤◌, ◌+◌, ◌-◌, length}
use Rattle.cert_tool.proofs.ValueSizes.{IsFew}
use Rattle.cert_tool.proofs.one_value.read_value.Given as goal

abbrev pub invariant-loop-count : goal.invariant-loop-count
invariant-loop-count g l = record {
  within : length l.octets.items ≤ l.most;
  few : IsFew l.octets.items;
  room : length l.buffer ≡ 2048;
  taken : g.I.Input.takes l.fn.input l.octets.items l.input;
  sound : g.I.Input.failures l.input ≡ g.I.Input.failures l.fn.input;
}

abbrev pub decreases-loop-count : goal.decreases-loop-count
decreases-loop-count g l = l.most + 1 - length l.octets.items
