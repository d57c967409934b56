-- Goals of `making::made_with` that the checker doesn't prove by itself.
use Rattle.std.proofs.Common.{ap, ◌∙◌}
use Rattle.x509_cert_builders.specs.States.{CertificateState}
use Rattle.cert_desk.specs.Ordered.{names_for, ordered_part}
use Rattle.cert_desk.specs.PlainOrders.{accepted_plain}
use Rattle.cert_desk.proofs.SignedParts.{profile_part}
use Rattle.cert_desk.proofs.making.made_with.Goals as goal

pub returns : goal.returns
returns g c =
    let by = g.P.BuilderProfile in
    let role = c.args.role in
    let p = accepted_plain c.args.accepted.now in
    let above = accepted_plain c.args.issuer.now in
    let key = g.S.Signer.public_key c.args.signer.now in
    let a = g.S.Signer.signs_by c.args.signer.now in
    let state = c.in_ok-add_names.ensures.added ∙ ap (λ (b : CertificateState _). record b { added = names_for role p }) c.in_ok-builder.ensures.made in
    c.made_by.ensures role p.dns (ordered_part role p above a)
    (profile_part by.subject_name by.issuer_name by.extensions by.refuses role p above c.args.profile key a c.add_names.new.builder c.requires.ready c.requires.profile c.requires.key state)
