-- Goals of `issuing::issue_all` that the checker doesn't prove by itself.
use Rattle.std.proofs.Common.{sym, ◌∙◌, subst}
use Rattle.cert_desk_listing.specs.Der.Grammar.{plain_list}
use Rattle.cert_desk.specs.declared.issue_error.IssueError.{IssueError}
use Rattle.cert_desk_listing.specs.CertCertificates.Views.{certificate_plain}
use Rattle.x509_cert_builders.specs.States.{as_written}
use Rattle.cert_desk.specs.PlainOrders.{orders_plain}
use Rattle.cert_desk.specs.Refusals.{Refuses}
use Rattle.cert_desk_orders.proofs.Types.AscendingSteps.{length_plain_list}
use Rattle.cert_desk.proofs.IssuedFronts.{made_more, stopped}
use Rattle.cert_desk.proofs.issuing.issue_all.Goals as goal

pub returns-in-Err-clause-stopped : goal.returns-in-Err-clause-stopped
returns-in-Err-clause-stopped g c = λ orders accepted.
    let s = g.S.Signer in
    let signers = c.args.signers.now in
    subst (λ (e : IssueError). Refuses s.public_key s.signs_by s.signs s.may_refuse orders signers e) (sym c.at.ensures)
    (stopped s.public_key s.signs_by s.signs s.may_refuse orders signers (orders_plain c.args.accepted.now) (plain_list (λ c. as_written (certificate_plain c)) c.loop-place.certificates.items) c.loop-place.place accepted
    (length_plain_list (λ c. as_written (certificate_plain c)) c.loop-place.certificates.items ∙ c.loop-place.invariant.count) c.loop-place.invariant.front.made c.in-Err.stop c.in-Err.ensures)

pub loop-place-preserved : goal.loop-place-preserved
loop-place-preserved g c =
    let more = made_more g.S.Signer.signs_by g.S.Signer.signs (orders_plain c.args.accepted.now) c.args.signers.now (λ c. as_written (certificate_plain c)) c.loop-place.certificates.items c.push.new.self.items c.in-Ok.made.certificate c.loop-place.place
    c.loop-place.stream.items c.append.new.self.items c.in-Ok.made.octets.items c.in-Ok-push.ensures.items c.in-Ok-append.ensures.items c.loop-place.invariant.count c.loop-place.invariant.front
    c.in-Ok.ensures in
    record { count = more.0; front = more.1 }
