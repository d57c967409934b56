-- The identifier's encoding is that of id-kp and one more arc.
use Rattle.std.proofs.Common.{◌≡◌, List, ℕ, sym, ap, ◌∙◌}
use Rattle.std.specs.Prelude.{bytes_eq}
use Rattle.cert_desk_bundle.specs.Oid.IdentifierOctets.{identifier_octets}
use Rattle.cert_tool_limits.specs.Limits.{id_kp}
use Rattle.cert_tool_limits.proofs.IdentifierLaws.{kp_octets}
use Rattle.cert_tool_limits.proofs.key_uses.is_kp.Goals as goal

pub returns : goal.returns
returns c =
    let octets : c.as_bytes.result.now ≡ identifier_octets c.args.purpose.now = c.as_bytes.ensures.octets in
    let known : c.as_slice.result.now ≡ identifier_octets (id_kp c.args.number) = c.as_slice.ensures ∙ sym (kp_octets c.args.number c.requires) in
    c.eq.ensures
    ∙ ap (λ (w : List ℕ). bytes_eq w c.as_slice.result.now) octets
    ∙ ap (bytes_eq (identifier_octets c.args.purpose.now)) known
