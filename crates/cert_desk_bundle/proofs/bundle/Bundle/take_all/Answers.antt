-- Goals of `Bundle::take_all`: consumed bytes leave a shorter piece, and bytes that can't be
-- consumed reject the piece.
use Rattle.std.proofs.Common.{◌≡◌, ap, subst, ◌∙◌}
use Rattle.std.proofs.lemmas.List.{take_rest}
use Rattle.x509_cert_certificates.specs.Oid.Bound.{Bound}
use Rattle.cert_desk_bundle.specs.Steps.{error_of}
use Rattle.cert_desk_bundle.specs.Streams.{Kept}
use Rattle.cert_desk_bundle.proofs.BundleSteps.{feeding-start}
use Rattle.cert_desk_bundle.proofs.Readings.{Feeding, feeding-more, feeding-refused, stops-refused, error_stopped}
use Rattle.cert_desk_bundle.proofs.bundle.Bundle.take_all.Goals as goal

pub loop-left-init : goal.loop-left-init
loop-left-init c =
    let opened = ap (λ (k : Kept). k.standing) c.self.view_is ∙ c.requires.open in
    subst (λ (k : Kept). Feeding Bound k c.args.piece.now c.args.piece.now k) c.self.view_is (feeding-start c.self.inside c.self.invariant c.args.piece.now opened)

pub loop-left-preserved : goal.loop-left-preserved
loop-left-preserved c = rw take_rest (feeding-more Bound c.args.self.now c.loop-left.self c.take.new.self c.args.piece.now c.loop-left.left.now c.loop-left.invariant c.in-Ok.count c.in-Ok.ensures.taken)

pub returns-in-Err-clause-refused : goal.returns-in-Err-clause-refused
returns-in-Err-clause-refused c =
    let f = c.loop-left.invariant in
    let new = c.stop.new.self in
    let told : error_of Bound new new.standing ≡ error_of Bound c.take.new.self c.in-Err.standing =
    ap (λ (k : Kept). error_of Bound k k.standing) c.stop.ensures ∙ error_stopped Bound c.take.new.self c.in-Err.standing in
    λ not. feeding-refused Bound c.args.self.now c.loop-left.self new c.args.piece.now c.loop-left.left.now f (error_of Bound new new.standing)
    (stops-refused Bound c.loop-left.self c.take.new.self new c.loop-left.left.now f.advances.is_open c.in-Err.standing (error_of Bound new new.standing) c.in-Err.ensures.stops c.stop.ensures told)
