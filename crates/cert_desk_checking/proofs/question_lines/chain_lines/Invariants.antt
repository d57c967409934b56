-- The loop invariant of `question_lines::chain_lines`: the lines of the certificates so far.
use Rattle.std.proofs.Common.{◌≡◌, string_bytes, map}
use Rattle.cert_desk_checking.specs.Anchors.{anchor_plain}
use Rattle.x509_cert_anchors.specs.Oid.Bound.{Bound}
use Rattle.cert_desk_rules.specs.DeskBundle.Chains.{joined}
use Rattle.cert_desk_checking.specs.QuestionLines.{lines_below, lines_octets}
use Rattle.cert_desk_checking.proofs.question_lines.chain_lines.Given as goal

abbrev pub invariant-loop-place : goal.invariant-loop-place
invariant-loop-place l =
    string_bytes l.text ≡ lines_octets (lines_below (map anchor_plain l.fn.anchors) l.fn.bundle.certificates (joined Bound l.fn.bundle.certificates) l.place)
