-- The loop invariants of `members::encode_members`.
use Rattle.std.proofs.Common.{◌≡◌, drop}
use Rattle.std.specs.List.{flat_map}
use Rattle.der_core_octets.specs.CoreHead.Grammar.{plain_list}
use Rattle.der_core_octets.specs.CoreHead.Shapes.{octets_of}
use Rattle.der_core_octets.specs.CoreHead.Writing.{Out, write, write_many}
use Rattle.der_core_octets.specs.Outputs.{AddsFront, Continues}
use Rattle.der_core_values.proofs.members.encode_members.Given as goal

abbrev pub invariant-loop-member : goal.invariant-loop-member
invariant-loop-member g l =
    let F = write g.T.Shaped.shape in
    let octets = octets_of g.T.Shaped.shape in
    (write_many F (plain_list g.T.Shaped.written (drop l.member-index l.members)) (g.W.Writer.out l.writer) ≡ write_many F (plain_list g.T.Shaped.written l.members) (g.W.Writer.out l.fn.writer))
    × Continues (g.W.Writer.out l.fn.writer) (g.W.Writer.out l.writer)
    × ((new : Out) → AddsFront (flat_map octets (plain_list g.T.Shaped.written (drop l.member-index l.members))) (g.W.Writer.out l.writer) new
    → AddsFront (flat_map octets (plain_list g.T.Shaped.written l.members)) (g.W.Writer.out l.fn.writer) new)
