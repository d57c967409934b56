-- The loop invariant of `paths::path_up`: the path so far, followed by the path from here.
use Rattle.std.proofs.Common.{◌≡◌, ◌-◌, ◌<◌, ◌++◌, length, map}
use Rattle.cert_desk_checking.specs.Oid.Bound.{Bound}
use Rattle.cert_desk_checking.specs.Anchors.{anchor_plain}
use Rattle.pki_signers.specs.Followed.{followed}
use Rattle.pki_signers.specs.Paths.{next_up, path_up}
use Rattle.pki_signers.proofs.paths.path_up.Given as goal

abbrev pub invariant-loop-turn : goal.invariant-loop-turn
invariant-loop-turn l = record {
  within : l.place < length l.certificates.certificates;
  so : path_up Bound (map anchor_plain l.anchors) l.certificates.certificates l.fn.last
      ≡ l.path.items ++ followed (next_up Bound (map anchor_plain l.anchors) l.certificates.certificates) (length l.certificates.certificates - l._turn) l.place;
}
