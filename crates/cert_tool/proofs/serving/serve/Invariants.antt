-- The answers to the frames that were read were written in order, and nothing was reported.
use Rattle.std.proofs.Common.{◌≡◌}
use Rattle.cert_tool.proofs.ServingLaws.{SoFar}
use Rattle.cert_tool.proofs.serving.serve.Given as goal

abbrev pub invariant-requests : goal.invariant-requests
invariant-requests g l = record {
  served : SoFar (g.C.UnixClock.tells l.fn.clock) g.I.Input.takes g.I.Input.is_ended g.I.Input.failures g.O.Output.gives g.O.Output.failures l.fn.input l.input l.fn.output l.output;
  untold : l.err ≡ l.fn.err;
}
