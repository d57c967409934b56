-- The loop invariants of `members::members_len`.
use Rattle.std.proofs.Common.{◌≡◌, drop}
use Rattle.der_core_octets.specs.CoreHead.Grammar.{plain_list}
use Rattle.der_core_octets.specs.CoreHead.Writing.{size, many_len}
use Rattle.der_core_values.proofs.members.members_len.Given as goal

abbrev pub invariant-loop-member : goal.invariant-loop-member
invariant-loop-member g l =
    let F = size g.T.Shaped.shape in
    many_len F (plain_list g.T.Shaped.written (drop l.member-index l.members)) l.len.value ≡ many_len F (plain_list g.T.Shaped.written l.members) 0
