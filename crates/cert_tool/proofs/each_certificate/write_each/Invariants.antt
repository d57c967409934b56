-- The stream was read up to here, the descriptions of its certificates were written, and no call
-- failed.
use Rattle.cert_tool_explain.specs.DeskIo.Devices.{sink, source}
use Rattle.cert_tool.specs.DescribedStreams.{HasMoved}
use Rattle.cert_tool.proofs.DescribedStreamLaws.{SoFar}
use Rattle.cert_tool.proofs.each_certificate.write_each.Given as goal

abbrev pub invariant-pieces : goal.invariant-pieces
invariant-pieces g l = record {
  read : SoFar (source g.S.Input.takes g.S.Input.is_ended g.S.Input.failures l.fn.stream l.stream) l.limit l.passed l.ahead.bundle l.ahead.octets.items;
  written : HasMoved (sink g.O.Output.gives g.O.Output.failures l.fn.out l.out);
}
