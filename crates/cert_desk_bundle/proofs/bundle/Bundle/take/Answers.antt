-- Goals of `Bundle::take`: the consumed bytes are kept, or complete a certificate.
use Rattle.std.proofs.Common.{◌≡◌, ◌+◌, ◌++◌, length, ap, subst, ◌∙◌, arith}
use Rattle.x509_cert_certificates.specs.Oid.Bound.{Bound}
use Rattle.cert_desk_bundle.specs.Locations.{certificates_of, kept_of}
use Rattle.cert_desk_bundle.specs.Steps.{TakesFront, Stops}
use Rattle.cert_desk_bundle.specs.Streams.{Kept}
use Rattle.cert_desk_bundle.proofs.BundleSteps.{stands_kept, ends_below, takes_left, takes_certificate, stops_unread}
use Rattle.cert_desk_bundle.proofs.LocationLaws.{kept-more, pushed, unpushed}
use Rattle.cert_desk_bundle.proofs.Scans.{awaits_new}
use Rattle.cert_desk_bundle.proofs.bundle.Bundle.take.Goals as goal

pub invariant_of-self : goal.invariant_of-self
invariant_of-self c =
    let i = c.self.invariant in
    let new = c.new.ensures in
    record {
      room = i.room;
      kept = i.kept;
      awaits = awaits_new c.self.inside.limit c.self.inside.end i.room (omega arith) c.new.result.octets.items c.new.result.wanted new.octets new.wanted;
      shut = λ h. new.octets;
    }

pub returns-in-None-clause-taken : goal.returns-in-None-clause-taken
returns-in-None-clause-taken c =
    let b = c.self.inside in
    let opened = ap (λ (k : Kept). k.standing) c.self.view_is ∙ c.requires.open in
    subst (λ (k : Kept). TakesFront Bound k (record (kept_of b) { rest = c.take.new.self.octets.items }) c.args.piece.now c.in-Ok.taken.0) c.self.view_is
    (takes_left b c.self.invariant opened c.args.piece.now c.take.new.self c.in-Ok.taken.0 (rw c.in-None.is at c.in-Ok.ensures.taken))

pub invariant_of-self-in-Err-read : goal.invariant_of-self-in-Err-read
invariant_of-self-in-Err-read c =
    let b = c.self.inside in
    let i = c.self.invariant in
    let taken = rw c.in-Some.is at c.in-Ok.ensures.taken in
    record {
      room = i.room;
      kept = i.kept;
      awaits = awaits_new b.limit b.end i.room (omega arith) c.take.new.self.octets.items c.take.new.self.wanted taken.completed.none taken.completed.wanted;
      shut = λ h. taken.completed.none;
    }

pub returns-in-Err-read-clause-stops : goal.returns-in-Err-read-clause-stops
returns-in-Err-read-clause-stops c =
    let b = c.self.inside in
    let opened = ap (λ (k : Kept). k.standing) c.self.view_is ∙ c.requires.open in
    subst (λ (k : Kept). Stops Bound k (record (kept_of b) { rest = c.take.new.self.octets.items }) (k.rest ++ c.args.piece.now) c.in-Err-read.standing) c.self.view_is
    (stops_unread b c.self.invariant opened c.args.piece.now c.take.new.self c.in-Ok.taken.0 c.in-Some.octets (rw c.in-Some.is at c.in-Ok.ensures.taken) c.in-Err-read.standing c.in-Err-read.ensures.unread)

pub invariant_of-self-then-is_err : goal.invariant_of-self-then-is_err
invariant_of-self-then-is_err c =
    let b = c.self.inside in
    let i = c.self.invariant in
    let taken = rw c.in-Some.is at c.in-Ok.ensures.taken in
    let same = unpushed c.push.result _ _ _ c.push.ensures.items c.if-is_err.ensures.negation in
    record {
      room = i.room;
      kept = rw same i.kept;
      awaits = awaits_new b.limit b.end i.room (omega arith) c.take.new.self.octets.items c.take.new.self.wanted taken.completed.none taken.completed.wanted;
      shut = λ h. taken.completed.none;
    }

pub invariant_of-self-2 : goal.invariant_of-self-2
invariant_of-self-2 c =
    let b = c.self.inside in
    let i = c.self.invariant in
    let l = c.in-Ok-read.located in
    let octets = c.in-Some.octets in
    let taken = rw c.in-Some.is at c.in-Ok.ensures.taken in
    let more = pushed c.push.result _ _ _ c.push.ensures.items c.if-is_err.ensures.negation in
    let len : c.len-len.result ≡ length octets.items = omega (arith, c.len-len.ensures, octets.ok.0) in
    let below = ends_below b.limit b.end b.rest c.take.new.self c.args.piece.now c.in-Ok.taken.0 octets taken in
    let stands = stands_kept b.limit b.end b.rest c.take.new.self c.args.piece.now c.in-Ok.taken.0 octets taken l c.in-Ok-read.ensures.read in
    record {
      room = i.room;
      kept = rw (more, len) (kept-more b.limit b.end b.located.items i.kept octets.items l c.in-Ok-read.ensures.read stands);
      awaits = awaits_new b.limit (b.end + c.len-len.result) i.room (omega arith) c.take.new.self.octets.items c.take.new.self.wanted taken.completed.none taken.completed.wanted;
      shut = λ h. taken.completed.none;
    }

pub returns-clause-taken : goal.returns-clause-taken
returns-clause-taken c =
    let b = c.self.inside in
    let opened = ap (λ (k : Kept). k.standing) c.self.view_is ∙ c.requires.open in
    subst (λ (k : Kept). TakesFront Bound k (record (kept_of b) { certificates = certificates_of c.push.new.self.items; rest = c.take.new.self.octets.items }) c.args.piece.now c.in-Ok.taken.0) c.self.view_is
    (takes_certificate b c.self.invariant opened c.args.piece.now c.take.new.self c.in-Ok.taken.0 c.in-Some.octets (rw c.in-Some.is at c.in-Ok.ensures.taken) c.in-Ok-read.located c.push.new.self.items c.in-Ok-read.ensures.read
    (pushed c.push.result _ _ _ c.push.ensures.items c.if-is_err.ensures.negation))
