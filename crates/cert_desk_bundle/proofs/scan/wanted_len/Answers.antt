-- Goals of `scan::wanted_len`: the header after the tag of a SEQUENCE.
use Rattle.std.proofs.Common.{◌+◌, ◌<◌, ◌≤◌, ◌^◌, ◌⊎◌, inl, inr, arith}
use Rattle.cert_desk_bundle.proofs.Scans.{wanted_none, wanted_cut, early_head, early_large, wanted_by}
use Rattle.cert_desk_bundle.proofs.scan.wanted_len.Goals as goal
use Rattle.cert_desk_bundle.proofs.scan.wanted_len.Goals.{then-len-from-via-then-len-from, then-len-from-via-else-len-from+then-len-offset}

pub returns-in_default-clause-wanted : goal.returns-in_default-clause-wanted
returns-in_default-clause-wanted c = wanted_none c.args.limit c.args.offset c.requires (omega arith) c.args.octets.now c.in_default.len_below

pub returns-in-Ok-None-clause-wanted : goal.returns-in-Ok-None-clause-wanted
returns-in-Ok-None-clause-wanted c =
    wanted_cut c.args.limit c.args.offset c.args.octets.now c.in-len1-up.len_at_least c.if-first-ne48.false c.requires (omega arith) (rw c.in-Ok-None.field-0-is at c.in-Ok-None.ensures.exact)

pub returns-in-Err-clause-fault : goal.returns-in-Err-clause-fault
returns-in-Err-clause-fault c =
    rw c.fault_of.ensures (early_head c.args.limit c.args.offset c.args.octets.now c.in-len1-up.len_at_least c.if-first-ne48.false c.in-Err.error c.in-Err.ensures.exact)

pub returns-then-len-from-clause-fault : goal.returns-then-len-from-clause-fault
returns-then-len-from-clause-fault c =
    let x = c.in-Ok-Some.front in
    let large : (c.args.limit < x.1 + x.0.length.value) ⊎ (2 ^ 64 ≤ c.args.offset + (x.1 + x.0.length.value)) =
    elim c.then-len-from.branch [
      | then-len-from-via-then-len-from w ↦ inl (omega arith)
      | then-len-from-via-else-len-from+then-len-offset w ↦ inr (omega arith)
    ] in
    early_large c.args.limit c.args.offset c.args.octets.now c.in-len1-up.len_at_least c.if-first-ne48.false (λ i. omega (arith, c.type_inv.octets i)) x (rw c.in-Ok-Some.field-0-is at c.in-Ok-Some.ensures.exact) large

pub returns-clause-wanted : goal.returns-clause-wanted
returns-clause-wanted c =
    let x = c.in-Ok-Some.front in
    rw c.from.ensures
    (wanted_by c.args.limit c.args.offset c.args.octets.now c.in-len1-up.len_at_least c.if-first-ne48.false (λ i. omega (arith, c.type_inv.octets i)) x
    (rw c.in-Ok-Some.field-0-is at c.in-Ok-Some.ensures.exact) c.requires (omega arith) (omega arith) (omega arith))
