-- Goals of `scan::content_start`: the scanned SEQUENCE is all of the bytes, or they are no
-- SEQUENCE.
use Rattle.std.proofs.Common.{arith}
use Rattle.cert_desk_bundle.proofs.Scans.{content_at, spelled_some, spelled_first, spelled_read, spelled_small, spelled_whole}
use Rattle.cert_desk_bundle.proofs.scan.content_start.Goals as goal

pub returns-in_default-clause-none : goal.returns-in_default-clause-none
returns-in_default-clause-none c = λ b v s. spelled_some c.args.octets.now b v s c.in_default.len_below

pub returns-then-first-ne48-clause-none : goal.returns-then-first-ne48-clause-none
returns-then-first-ne48-clause-none c = λ b v s. absurd (c.if-first-ne48.true (spelled_first c.args.octets.now b v s))

pub returns-in-Ok-None-clause-none : goal.returns-in-Ok-None-clause-none
returns-in-Ok-None-clause-none c = λ b v s. spelled_read c.args.octets.now b v s _ (rw c.in-Ok-None.field-0-is at c.in-Ok-None.ensures.exact)

pub returns-in-Err-clause-none : goal.returns-in-Err-clause-none
returns-in-Err-clause-none c = λ b v s. spelled_read c.args.octets.now b v s c.in-Err.field-0.kind c.in-Err.ensures.exact.0

pub returns-then-len-octets-clause-none : goal.returns-then-len-octets-clause-none
returns-then-len-octets-clause-none c = λ b v s.
    let all = spelled_whole c.args.octets.now b v s c.in-Ok-Some.front (rw c.in-Ok-Some.field-0-is at c.in-Ok-Some.ensures.exact) in
    absurd (c.if-len-octets.true (omega (arith, all, c.from.ensures)))

pub returns-then-len-from-clause-none : goal.returns-then-len-from-clause-none
returns-then-len-from-clause-none c = λ b v s. omega (arith, spelled_small c.args.octets.now b v s, c.if-len-from.true, c.if-len-octets.false, c.from.ensures, c.from-2.ensures)

pub returns-clause-content : goal.returns-clause-content
returns-clause-content c =
    content_at c.args.octets.now c.in-len1-up.len_at_least c.if-first-ne48.false (λ i. omega (arith, c.type_inv.octets i)) c.in-Ok-Some.front
    (rw c.in-Ok-Some.field-0-is at c.in-Ok-Some.ensures.exact) (omega (arith, c.if-len-octets.false, c.from.ensures)) (omega (arith, c.if-len-from.false, c.if-len-octets.false, c.from.ensures, c.from-2.ensures))
