-- The loop invariant of `Bundle::read_from`: the bytes so far were read. The loop ends because the
-- bytes of a bundle are bounded and each piece adds some.
use Rattle.std.proofs.Common.{◌≡◌, ◌+◌, ◌-◌, ◌^◌, length}
use Rattle.cert_desk_bundle.specs.declared.standing.Standing.TheVariants as standings
use Rattle.cert_desk_bundle.specs.Steps.{kept_octets, Grows, Takes}
use Rattle.cert_desk_bundle.proofs.bundle.Bundle.read_from.Given as goal
use Rattle.x509_cert_certificates.specs.Oid.Bound.{Bound}

abbrev pub invariant-loop-count : goal.invariant-loop-count
invariant-loop-count g l = record {
  was_open : l.fn.self.standing ≡ standings.Open;
  is_open : l.self.standing ≡ standings.Open;
  limit : l.self.limit ≡ l.fn.self.limit;
  grows : Grows l.fn.self l.self;
  room : length l.buffer ≡ 4096;
  sound : g.I.Input.failures l.input ≡ g.I.Input.failures l.fn.input;
  reads : Takes g.I.Input.takes l.fn.input l.input Bound l.fn.self l.self;
}

abbrev pub decreases-loop-count : goal.decreases-loop-count
decreases-loop-count g l = 2 ^ 64 + 5 - length (kept_octets Bound l.self)
