-- The loop invariants of `copies::copies_of`.
use Rattle.std.proofs.Common.{◌≡◌, take}
use Rattle.der_core_coding.specs.CoreHead.Grammar.{plain_list}
use Rattle.der_core.proofs.copies.copies_of.Given as goal

abbrev pub invariant-loop-member : goal.invariant-loop-member
invariant-loop-member g l = plain_list g.T.Shaped.plain l.copies.items ≡ plain_list g.T.Shaped.plain (take l.member-index l.members)
