-- Goals of `frames::take_octets`: the bytes of each read follow those before.
use Rattle.std.proofs.Common.{ℕ, ◌∙◌, inl, inr, take, ◌++◌, subst, arith}
use Rattle.cert_desk_io.proofs.Given.{gives-none}
use Rattle.cert_desk_io.proofs.frames.take_octets.Goals as goal

pub returns-in_default-clause-stopped : goal.returns-in_default-clause-stopped
returns-in_default-clause-stopped g c = (
  c.reads.octets.items,
  record {
    before = c.reads.input;
    moved = c.reads.invariant.taken;
    sound = c.reads.invariant.sound;
    stopped = c.in_default.ensures.none_taken;
    not_ended = c.in_default.ensures.not_ended;
    once = c.in_default.ensures.once;
  },
)

pub returns-then-taken-eq0-clause-taken : goal.returns-then-taken-eq0-clause-taken
returns-then-taken-eq0-clause-taken g c = (
  gives-none g.I.Input.takes g.met.I.Input.takes_in_turn _ _ _ _ c.reads.invariant.taken
      (subst (λ (n : ℕ). g.I.Input.takes c.reads.input (take n c.read.new.buffer) c.read.new.self) c.if-taken-eq0.true c.in-Ok.ensures.taken),
  c.in-Ok.ensures.sound ∙ c.reads.invariant.sound,
  inr (omega (arith, c.reads-test.true), c.in-Ok.ensures.end.0 c.if-taken-eq0.true),
)

pub returns-then-is_err-clause-stopped : goal.returns-then-is_err-clause-stopped
returns-then-is_err-clause-stopped g c = (
  c.reads.octets.items ++ take c.in-Ok.taken c.read.new.buffer,
  g.met.I.Input.takes_in_turn _ _ _ _ _ c.reads.invariant.taken c.in-Ok.ensures.taken,
  c.in-Ok.ensures.sound ∙ c.reads.invariant.sound,
)

pub returns-clause-taken : goal.returns-clause-taken
returns-clause-taken g c = (c.reads.invariant.taken, c.reads.invariant.sound, inl (omega (arith, c.reads.invariant.within)))
