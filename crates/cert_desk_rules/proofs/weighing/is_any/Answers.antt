-- Goals of `weighing::is_any` that the checker doesn't prove by itself.
use Rattle.std.proofs.Common.{◌≡◌, List, ℕ, sym, ap, ◌∙◌}
use Rattle.std.specs.Prelude.{bytes_eq}
use Rattle.cert_desk_bundle.specs.Oid.IdentifierOctets.{identifier_octets}
use Rattle.cert_desk_rules.specs.Weighing.{any_purpose}
use Rattle.cert_desk_rules.proofs.ExtensionLaws.{any_octets}
use Rattle.cert_desk_rules.proofs.weighing.is_any.Goals as goal

pub returns : goal.returns
returns c =
    let octets : c.as_bytes.result.now ≡ identifier_octets c.args.purpose.now = c.as_bytes.ensures.octets in
    let known : c.as_slice.result.now ≡ identifier_octets any_purpose = c.as_slice.ensures ∙ sym any_octets in
    c.eq.ensures
    ∙ ap (λ (w : List ℕ). bytes_eq w c.as_slice.result.now) octets
    ∙ ap (bytes_eq (identifier_octets c.args.purpose.now)) known
