-- The loop invariant of `issuing::issue_all`: the certificates so far are issued.
use Rattle.std.proofs.Common.{◌≡◌, length}
use Rattle.cert_desk_listing.specs.Der.Grammar.{plain_list}
use Rattle.cert_desk_listing.specs.CertCertificates.Views.{certificate_plain}
use Rattle.x509_cert_builders.specs.States.{as_written}
use Rattle.cert_desk.specs.PlainOrders.{orders_plain}
use Rattle.cert_desk.proofs.IssuedFronts.{IsFront}
use Rattle.cert_desk.proofs.issuing.issue_all.Given as goal

abbrev pub invariant-loop-place : goal.invariant-loop-place
invariant-loop-place g l = record {
  count : length l.certificates.items ≡ l.place;
  front : IsFront g.S.Signer.signs_by g.S.Signer.signs (orders_plain l.accepted) l.signers (plain_list (λ c. as_written (certificate_plain c)) l.certificates.items) l.stream.items;
}
