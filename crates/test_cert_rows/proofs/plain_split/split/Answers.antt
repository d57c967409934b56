-- Goals of `plain_split::split`: each certificate that is found makes the chain longer by one.
use Rattle.std.proofs.Common.{◌≡◌, drop, map, [], ◌∷◌, ◌++◌, ap, ◌∙◌, arith}
use Rattle.std.proofs.lemmas.List.{take_rest, map-append}
use Rattle.cert_desk_checking.specs.CertCertificates.Views.{certificate_plain}
use Rattle.test_cert_rows.specs.SplitFronts.{Front, NoFront}
use Rattle.test_cert_rows.proofs.SplitFronts.{so_far-start, so_far-more, split_of}
use Rattle.test_cert_rows.proofs.plain_split.split.Goals as goal
use Rattle.const_oid.specs.Bound.{Bound}

pub loop-certificates-init : goal.loop-certificates-init
loop-certificates-init c = rw c.new-certificates.ensures.items (so_far-start Bound c.args.limit c.args.stream.now)

pub loop-certificates-preserved : goal.loop-certificates-preserved
loop-certificates-preserved c =
    let s = c.args.stream.now in
    let cs = c.loop-certificates.certificates.items in
    let new = c.in-Some.certificate in
    let front : Front Bound c.args.limit (drop c.loop-certificates.start s) (certificate_plain new) c.in-Some.len =
    rw (take_rest, c.in-Some.is) at c.in_ok-first_certificate.ensures in
    let items : map certificate_plain c.push.new.self.items ≡ map certificate_plain cs ++ certificate_plain new ∷ [] =
    ap (map certificate_plain) c.in_ok-push-in-Some.ensures.items ∙ map-append certificate_plain cs (new ∷ []) in
    rw items (so_far-more Bound c.args.limit s (map certificate_plain cs) c.loop-certificates.start (certificate_plain new) c.in-Some.len (omega arith) c.loop-certificates.invariant front)

pub returns-in-None : goal.returns-in-None
returns-in-None c =
    let s = c.args.stream.now in
    let none : NoFront Bound c.args.limit (drop c.loop-certificates.start s) =
    rw (take_rest, c.in-None.is) at c.in_ok-first_certificate.ensures in
    record {
      within = c.loop-certificates.invariant.within;
      split = split_of Bound c.args.limit s (map certificate_plain c.loop-certificates.certificates.items) c.loop-certificates.start c.loop-certificates.invariant none;
    }
