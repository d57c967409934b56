-- The loop invariant of `outputs::write_all`: the first `sent` bytes of the text were written
-- without a failure.
use Rattle.std.proofs.Common.{◌≡◌, ◌≤◌, ◌-◌, length, take}
use Rattle.cert_desk_io.proofs.outputs.write_all.Given as goal

abbrev pub invariant-loop-sent : goal.invariant-loop-sent
invariant-loop-sent g l = record {
  within : l.sent ≤ length l.text;
  given : g.O.Output.gives l.fn.output (take l.sent l.text) l.output;
  sound : g.O.Output.failures l.output ≡ g.O.Output.failures l.fn.output;
}

abbrev pub decreases-loop-sent : goal.decreases-loop-sent
decreases-loop-sent g l = length l.text - l.sent
