-- The loop invariants of `serial_number::fill_without_zero`.
use Rattle.std.proofs.Common.{◌≡◌, ◌-◌, length}
use Rattle.x509_cert_parts.specs.Drawing.{first_fill}
use Rattle.x509_cert_parts.proofs.serial_number.fill_without_zero.Given as goal

abbrev pub invariant-loop-turn : goal.invariant-loop-turn
invariant-loop-turn g l =
    (length l.random ≡ length l.initial.random)
    × (first_fill (16 - l._turn) (length l.random) (g.R.Rng.stream l.rng) ≡ first_fill 16 (length l.random) (g.R.Rng.stream l.initial.rng))
