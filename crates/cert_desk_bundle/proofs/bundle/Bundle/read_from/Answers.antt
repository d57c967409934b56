-- Goals of `Bundle::read_from`: each read adds a piece, meets the end, or fails.
use Rattle.std.proofs.Common.{ℕ, take, ◌∙◌, subst}
use Rattle.std.proofs.lemmas.Result.{err_from_is_err_and}
use Rattle.cert_desk_bundle.proofs.Inputs.{Takes-more, Takes-still, device_fails, end-refused, piece-refused, short_piece}
use Rattle.cert_desk_bundle.proofs.Readings.{Grows-trans}
use Rattle.cert_desk_bundle.proofs.bundle.Bundle.read_from.Goals as goal
use Rattle.x509_cert_certificates.specs.Oid.Bound.{Bound}

pub returns-in_default-clause-refused : goal.returns-in_default-clause-refused
returns-in_default-clause-refused g c =
    device_fails g.I.Input.takes g.met.I.Input.takes_in_turn c.args.input.now c.loop-count.input c.read.new.self Bound c.args.self.now c.loop-count.self c.stop.new.self c.loop-count.invariant.reads
    g.I.Input.is_ended g.I.Input.failures c.loop-count.invariant.was_open c.loop-count.invariant.is_open c.loop-count.invariant.limit c.loop-count.invariant.sound
    c.in_default.ensures.none_taken c.stop.ensures c.in_default.ensures.not_ended c.in_default.ensures.once

pub returns-in_err-finish-clause-refused : goal.returns-in_err-finish-clause-refused
returns-in_err-finish-clause-refused g c =
    let p = err_from_is_err_and c.from_residual.result c.from_residual.ensures.1 in
    rw (p.1, p.2)
    (end-refused g.I.Input.takes g.met.I.Input.takes_in_turn c.args.input.now c.loop-count.input c.read.new.self Bound c.args.self.now c.loop-count.self c.finish.new.self c.loop-count.invariant.reads
    g.I.Input.is_ended g.I.Input.failures c.loop-count.invariant.was_open c.loop-count.invariant.is_open c.loop-count.invariant.limit c.loop-count.invariant.sound c.in_err-finish.field-0.0 c.in-Ok.ensures.sound
    (subst (λ (n : ℕ). g.I.Input.takes c.loop-count.input (take n c.read.new.buffer) c.read.new.self) c.if-count-eq0.true c.in-Ok.ensures.taken) (c.in-Ok.ensures.end.0 c.if-count-eq0.true) c.in_err-finish.ensures.refused)

pub returns-then-count-eq0-clause-reads : goal.returns-then-count-eq0-clause-reads
returns-then-count-eq0-clause-reads g c =
    Takes-still g.I.Input.takes g.met.I.Input.takes_in_turn c.args.input.now c.loop-count.input c.read.new.self Bound c.args.self.now c.loop-count.self c.finish.new.self c.loop-count.invariant.reads
    (subst (λ (n : ℕ). g.I.Input.takes c.loop-count.input (take n c.read.new.buffer) c.read.new.self) c.if-count-eq0.true c.in-Ok.ensures.taken) c.in_ok-finish.ensures.reads

pub loop-count-preserved : goal.loop-count-preserved
loop-count-preserved g c =
    let i = c.loop-count.invariant in
    record {
      was_open = i.was_open;
      is_open = c.in_ok-feed.ensures.is_open;
      limit = c.in_ok-feed.ensures.limit ∙ i.limit;
      grows = Grows-trans c.args.self.now c.loop-count.self c.feed.new.self i.grows c.in_ok-feed.ensures.grows;
      room = c.read.auto.buffer ∙ i.room;
      sound = c.in-Ok.ensures.sound ∙ i.sound;
      reads = Takes-more g.I.Input.takes g.met.I.Input.takes_in_turn c.args.input.now c.loop-count.input c.read.new.self Bound c.args.self.now c.loop-count.self c.feed.new.self i.reads (take c.in-Ok.count c.read.new.buffer) c.in-Ok.ensures.taken c.in_ok-feed.ensures.reads;
    }

pub returns-in_err-feed-clause-refused : goal.returns-in_err-feed-clause-refused
returns-in_err-feed-clause-refused g c =
    let p = err_from_is_err_and c.from_residual-in_err-feed.result c.from_residual-in_err-feed.ensures.1 in
    rw (p.1, p.2)
    (piece-refused g.I.Input.takes g.met.I.Input.takes_in_turn c.args.input.now c.loop-count.input c.read.new.self Bound c.args.self.now c.loop-count.self c.feed.new.self c.loop-count.invariant.reads
    g.I.Input.is_ended g.I.Input.failures c.loop-count.invariant.was_open c.loop-count.invariant.is_open c.loop-count.invariant.limit c.loop-count.invariant.sound c.in_err-feed.field-0.0 (take c.in-Ok.count c.read.new.buffer)
    c.in-Ok.ensures.sound (short_piece c.in-Ok.count c.read.new.buffer (c.read.auto.buffer ∙ c.loop-count.invariant.room)) c.in-Ok.ensures.taken c.in_err-feed.ensures.refused)
