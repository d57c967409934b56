-- Goals of `extension_kind::ExtensionKind::of` that the checker doesn't prove by itself.
use Rattle.std.proofs.Common.{sym, ◌∙◌}
use Rattle.std.specs.Cmp.Lexicographic.{bytes_decides}
use Rattle.std.proofs.lemmas.Bool.{both_ways}
use Rattle.x509_cert_parts.specs.Oid.IdentifierOctets.{identifier_octets}
use Rattle.x509_cert_parts.specs.ExtensionTypes.{id_ce, id_pe}
use Rattle.x509_cert_kinds.specs.declared.extension_kind.ExtensionKind.TheVariants as kinds
use Rattle.x509_cert_kinds.proofs.KindLaws.{ce_octets, is_kind, is_no_kind, known_below, none_of, pe_octets, spelled_ce, spelled_pe, timestamps_octets, unknown_below}
use Rattle.x509_cert_kinds.proofs.extension_kind.ExtensionKind.of.Goals as goal

pub returns-in-Some-clause-known : goal.returns-in-Some-clause-known
returns-in-Some-clause-known c =
    known_below id_ce ce_octets spelled_ce _ _ (sym c.as_bytes-octets.ensures.octets ∙ c.in-Some.ensures.some) _ c.below_ce.ensures.known

pub returns-in-Some-clause-unknown : goal.returns-in-Some-clause-unknown
returns-in-Some-clause-unknown c =
    unknown_below id_ce ce_octets spelled_ce _ _ (sym c.as_bytes-octets.ensures.octets ∙ c.in-Some.ensures.some) _ c.below_ce.ensures.unknown

pub returns-in-Some-arc_below-clause-known : goal.returns-in-Some-arc_below-clause-known
returns-in-Some-arc_below-clause-known c =
    known_below id_pe pe_octets spelled_pe _ _ (sym c.as_bytes-octets.ensures.octets ∙ c.in-Some-arc_below.ensures.some) _ c.below_pe.ensures.known

pub returns-in-Some-arc_below-clause-unknown : goal.returns-in-Some-arc_below-clause-unknown
returns-in-Some-arc_below-clause-unknown c =
    unknown_below id_pe pe_octets spelled_pe _ _ (sym c.as_bytes-octets.ensures.octets ∙ c.in-Some-arc_below.ensures.some) _ c.below_pe.ensures.unknown

pub returns-then-eq-clause-known : goal.returns-then-eq-clause-known
returns-then-eq-clause-known c =
    let same = (bytes_decides c.as_bytes-octets.result.now c.as_slice.result.now).0 (sym c.eq.ensures ∙ c.if-eq.true) in
    is_kind c.args.identifier.now kinds.SignedCertificateTimestamps (sym c.as_bytes-octets.ensures.octets ∙ same ∙ c.as_slice.ensures ∙ sym timestamps_octets)

pub returns-clause-unknown : goal.returns-clause-unknown
returns-clause-unknown c =
    let octets = c.as_bytes-octets.ensures.octets in
    let other = none_of (identifier_octets c.args.identifier.now)
    (λ n e. c.in_default.ensures.none n (octets ∙ e))
    (λ n e. c.in_default-arc_below.ensures.none n (octets ∙ e))
    (λ e. both_ways c.eq.result c.if-eq.false (c.eq.ensures ∙ (bytes_decides c.as_bytes-octets.result.now c.as_slice.result.now).1 (octets ∙ e ∙ timestamps_octets ∙ sym c.as_slice.ensures))) in
    λ kind. is_no_kind c.args.identifier.now kind (other kind)
