-- The loop invariant of `chains::chain_of`: the bundle has read the certificates so far.
use Rattle.std.proofs.Common.{◌≡◌, take}
use Rattle.cert_desk_checking.specs.Oid.Bound.{Bound}
use Rattle.cert_desk_checking.specs.DeskBundle.declared.standing.Standing.TheVariants as standings
use Rattle.cert_desk_checking.specs.DeskBundle.Chains.{joined}
use Rattle.cert_desk_checking.specs.DeskBundle.Streams.{Reads}
use Rattle.pki_signers.specs.Paths.{certificates_at}
use Rattle.pki_signers.proofs.chains.chain_of.Given as goal

abbrev pub invariant-loop-place : goal.invariant-loop-place
invariant-loop-place l = record {
  opened : l.chain.standing ≡ standings.Open;
  limit : l.chain.limit ≡ l.certificates.limit;
  reads : Reads Bound l.chain (joined Bound (certificates_at l.certificates.certificates (take l.place-index l.path)));
}
