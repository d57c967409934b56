-- The loop invariant of `frames::take_octets`: the bytes so far were read without a failure, and
-- they are at most as many as requested.
use Rattle.std.proofs.Common.{◌≡◌, ◌≤◌, ◌-◌, length}
use Rattle.cert_desk_io.proofs.frames.take_octets.Given as goal

abbrev pub invariant-reads : goal.invariant-reads
invariant-reads g l = record {
  within : length l.octets.items ≤ l.count;
  room : length l.buffer ≡ 4096;
  taken : g.I.Input.takes l.fn.input l.octets.items l.input;
  sound : g.I.Input.failures l.input ≡ g.I.Input.failures l.fn.input;
}

abbrev pub decreases-reads : goal.decreases-reads
decreases-reads g l = l.count - length l.octets.items
