-- The loop invariant of `anchor_files::anchors_in`: the names and keys so far are those of the
-- trust anchors up to the start.
use Rattle.std.proofs.Common.{◌-◌, length, map}
use Rattle.cert_desk_checking.specs.Anchors.{anchor_plain, given_by}
use Rattle.cert_desk_checking.specs.AnchorFiles.{raw_choice}
use Rattle.cert_desk_checking.proofs.FileReading.{SoFar}
use Rattle.cert_desk_checking.proofs.anchor_files.anchors_in.Given as goal

abbrev pub invariant-loop-start : goal.invariant-loop-start
invariant-loop-start l = SoFar raw_choice given_by l.octets (map anchor_plain l.anchors.items) l.start

abbrev pub decreases-loop-start : goal.decreases-loop-start
decreases-loop-start l = length l.octets - l.start
