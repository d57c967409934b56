-- Goals of `reader::Reader::read_into` that the checker doesn't prove by itself.
use Rattle.std.proofs.Common.{◌≡◌, length, refl, ap, sym, ◌∙◌, arith, Err, length-take}
use Rattle.der_core_head.specs.Reading.{State, past}
use Rattle.der_core_head.proofs.Results.{slice_short, slice_ok}
use Rattle.der_core_octets.proofs.reader.Reader.read_into.Goals as goal

pub returns-in-Ok-clause-reads : goal.returns-in-Ok-clause-reads
returns-in-Ok-clause-reads g c =
    let old : State = g.Self.Reader.state c.args.self.now in
    let ok = c.in-Ok.ensures.ok in
    let n = length c.args.buffer.now in
    let same : length c.peek_into.new.buffer ≡ n = omega (arith, ap length ok.0, length-take n old.rest, ok.1) in
    let moved : g.Self.Reader.state c.skip.new.self ≡ past n old = c.skip.ensures ∙ ap (λ k. past k old) same in
    rw (moved, ok.0) (slice_ok n old.rest ok.1, refl, ok.2, (n, refl))

pub returns-in-Err-clause-reads : goal.returns-in-Err-clause-reads
returns-in-Err-clause-reads g c =
    let short = c.in-Err.ensures.short in
    (λ ready. slice_short (length c.args.buffer.now) (g.Self.Reader.state c.args.self.now).rest (short ready).0 ∙ ap (λ k. Err k) (sym (short ready).1), c.fail.ensures, c.in-Err.ensures.failed)
