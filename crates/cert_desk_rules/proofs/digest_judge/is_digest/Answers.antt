-- Goals of `digest_judge::is_digest` that the checker doesn't prove by itself.
use Rattle.std.proofs.Common.{◌≡◌, Option, None, IsTrue, ◌↔◌, sym, ap, ◌∙◌}
use Rattle.std.proofs.lemmas.Slice.Eq.{bytes_eq-Decides}
use Rattle.cert_desk_bundle.specs.Oid.IdentifierOctets.{identifier_octets}
use Rattle.cert_desk_bundle.specs.Der.Grammar.{plain_option}
use Rattle.cert_desk_bundle.specs.Der.Shapes.{AnyValue}
use Rattle.cert_desk_bundle.specs.CertParts.Grammar.{algorithm_parameters}
use Rattle.cert_desk_bundle.specs.CertParts.Views.{algorithm_plain}
use Rattle.cert_desk_rules.specs.Digests.{digest_arcs}
use Rattle.cert_desk_rules.proofs.DigestLaws.{digest_by, no_parameters}
use Rattle.cert_desk_rules.proofs.DigestOctets.{digest_octets, is_identifier, digest_octets-is, same_arcs}
use Rattle.cert_desk_rules.proofs.digest_judge.is_digest.Goals as goal

pub returns-in-Some : goal.returns-in-Some
returns-in-Some c =
    no_parameters (algorithm_plain c.args.algorithm.now) _ (ap (λ (o : Option AnyValue). plain_option (λ (p : AnyValue). p) o) c.in-Some.is)

pub returns-in-None : goal.returns-in-None
returns-in-None c =
    let oid = c.args.algorithm.now.oid in
    let none : algorithm_parameters (algorithm_plain c.args.algorithm.now) ≡ None = ap (λ (o : Option AnyValue). plain_option (λ (p : AnyValue). p) o) c.in-None.is in
    let octets : c.as_bytes.result.now ≡ identifier_octets oid = c.as_bytes.ensures.octets in
    let table : c.as_slice.result.now ≡ digest_octets = c.as_slice.ensures in
    let decides = bytes_eq-Decides c.as_bytes.result.now c.as_slice.result.now in
    let same : IsTrue c.eq.result ↔ (oid ≡ digest_arcs) = (
      λ t.
          let same : c.as_bytes.result.now ≡ digest_octets = decides.0 (sym c.eq.ensures ∙ t) ∙ table in
          same_arcs oid digest_arcs c.as_bytes.ensures.identifier is_identifier (sym octets ∙ same ∙ sym digest_octets-is),
      λ e. c.eq.ensures ∙ decides.1 (octets ∙ ap identifier_octets e ∙ digest_octets-is ∙ sym table),
    ) in
    digest_by c.eq.result (algorithm_plain c.args.algorithm.now) none same
