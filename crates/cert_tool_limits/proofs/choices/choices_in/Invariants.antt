-- The trust anchors are those that the bytes before the offset encode.
use Rattle.std.proofs.Common.{◌-◌, length, map}
use Rattle.x509_cert_anchors.specs.AnchorViews.{trust_anchor_plain}
use Rattle.cert_desk_checking.specs.AnchorFiles.{raw_choice}
use Rattle.cert_desk_checking.proofs.FileReading.{SoFar}
use Rattle.cert_tool_limits.specs.Choices.{given_itself}
use Rattle.cert_tool_limits.proofs.choices.choices_in.Given as goal

abbrev pub invariant-loop-start : goal.invariant-loop-start
invariant-loop-start l = SoFar raw_choice given_itself l.octets (map trust_anchor_plain l.choices.items) l.start

abbrev pub decreases-loop-start : goal.decreases-loop-start
decreases-loop-start l = length l.octets - l.start
