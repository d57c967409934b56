-- The identifier's encoding is that of id-ce and one more arc.
use Rattle.std.proofs.Common.{◌≡◌, List, ℕ, sym, ap, ◌∙◌}
use Rattle.std.specs.Prelude.{bytes_eq}
use Rattle.cert_desk_bundle.specs.Oid.IdentifierOctets.{identifier_octets}
use Rattle.cert_desk_bundle.specs.CertParts.ExtensionTypes.{id_ce}
use Rattle.cert_tool_limits.proofs.IdentifierLaws.{ce_octets}
use Rattle.cert_tool_limits.proofs.key_uses.is_ce.Goals as goal

pub returns : goal.returns
returns c =
    let octets : c.as_bytes.result.now ≡ identifier_octets c.args.extension.now.extn_id = c.as_bytes.ensures.octets in
    let known : c.as_slice.result.now ≡ identifier_octets (id_ce c.args.arc) = c.as_slice.ensures ∙ sym (ce_octets c.args.arc c.requires) in
    c.eq.ensures
    ∙ ap (λ (w : List ℕ). bytes_eq w c.as_slice.result.now) octets
    ∙ ap (bytes_eq (identifier_octets c.args.extension.now.extn_id)) known
