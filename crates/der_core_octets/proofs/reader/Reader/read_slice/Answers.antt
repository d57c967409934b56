-- Goals of `reader::Reader::read_slice` that the checker doesn't prove by itself.
use Rattle.std.proofs.Common.{arith, ap, length, refl}
use Rattle.der_core_head.proofs.Results.{slice_short, slice_ok}
use Rattle.der_core_octets.proofs.reader.Reader.read_slice.Goals as goal

pub returns-then-octets-len : goal.returns-then-octets-len
returns-then-octets-len g c =
    let short = slice_short c.args.len.value (g.Self.Reader.state c.args.self.now).rest (omega (arith, ap length c.remaining-octets.ensures.rest)) in
    rw c.error.ensures.kind (λ _. short, c.error.ensures.failed, λ failed. absurd cc)

pub returns : goal.returns
returns g c =
    let all = slice_ok c.args.len.value (g.Self.Reader.state c.args.self.now).rest (omega (arith, ap length c.remaining-octets.ensures.rest)) in
    rw (c.remaining-octets.ensures.rest, c.skip.ensures) (all, refl, cc, (c.args.len.value, refl))
