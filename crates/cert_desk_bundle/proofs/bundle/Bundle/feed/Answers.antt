-- Goals of `Bundle::feed`: a byte that is kept leaves more bytes missing.
use Rattle.std.proofs.Common.{◌++◌, ◌<◌, length, refl, subst, arith, length-append}
use Rattle.x509_cert_certificates.specs.Oid.Bound.{Bound}
use Rattle.cert_desk_bundle.specs.Locations.{kept_of}
use Rattle.cert_desk_bundle.specs.Steps.{ReadsExtended}
use Rattle.cert_desk_bundle.specs.Streams.{Kept}
use Rattle.cert_desk_bundle.proofs.BundleSteps.{takes_all}
use Rattle.cert_desk_bundle.proofs.RestLaws.{taken_short}
use Rattle.cert_desk_bundle.proofs.Scans.{awaits_more}
use Rattle.cert_desk_bundle.proofs.bundle.Bundle.feed.Goals as goal

pub invariant_of-self : goal.invariant_of-self
invariant_of-self c =
    let b = c.self.inside in
    let i = c.self.invariant in
    let k = c.if-keep.ensures in
    let longer : length (b.rest.octets.items ++ c.args.piece.now) < b.rest.wanted = omega (arith, k.fewer, length-append b.rest.octets.items c.args.piece.now) in
    record {
      room = i.room;
      kept = i.kept;
      awaits = rw (k.kept, c.keep.ensures.wanted) (awaits_more b.limit b.end b.rest.octets.items c.args.piece.now b.rest.wanted i.awaits longer);
      shut = λ h. absurd (h c.in-Open.is);
    }

pub returns-then-keep-clause-reads : goal.returns-then-keep-clause-reads
returns-then-keep-clause-reads c =
    let b = c.self.inside in
    let i = c.self.invariant in
    let k = c.if-keep.ensures in
    let piece = c.args.piece.now in
    let taken = taken_short b.limit b.end b.rest c.keep.new.self piece i.awaits (k.some refl) (omega (arith, k.fewer)) (k.kept refl) c.keep.ensures.wanted in
    subst (λ (old : Kept). ReadsExtended Bound old (record (kept_of b) { rest = c.keep.new.self.octets.items }) piece) c.self.view_is
    (takes_all b i c.in-Open.is piece c.keep.new.self (length piece) refl taken).reads
