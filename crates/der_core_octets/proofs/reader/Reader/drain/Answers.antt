-- Goals of `reader::Reader::drain` that the checker doesn't prove by itself.
use Rattle.std.proofs.Common.{arith, ap, length, refl}
use Rattle.der_core_head.proofs.Results.{slice_short, slice_ok}
use Rattle.der_core_octets.proofs.reader.Reader.drain.Goals as goal

pub returns-then-remaining-amount : goal.returns-then-remaining-amount
returns-then-remaining-amount g c =
    let short = slice_short c.args.amount.value (g.Self.Reader.state c.args.self.now).rest (omega (arith, ap length c.remaining.ensures.rest)) in
    rw c.error.ensures.kind (λ _. short, c.error.ensures.failed, λ failed. absurd cc)

pub returns : goal.returns
returns g c =
    let all = slice_ok c.args.amount.value (g.Self.Reader.state c.args.self.now).rest (omega (arith, ap length c.remaining.ensures.rest)) in
    rw c.skip.ensures (all, refl, cc, (c.args.amount.value, refl))
