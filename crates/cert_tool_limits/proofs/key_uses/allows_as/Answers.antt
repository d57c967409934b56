-- The cases in which the content can be decoded, and in which it can't.
use Rattle.std.proofs.Common.{sym, ap, refl, ◌∙◌, arith}
use Rattle.cert_desk_bundle.specs.Der.Leaves.{named}
use Rattle.cert_desk_bundle.specs.Der.Shapes.{leaf, tagged}
use Rattle.cert_desk_bundle.specs.Der.TagTypes.Tag.TheVariants as tags
use Rattle.cert_desk_rules.specs.Weighing.{key_usage_in, uses}
use Rattle.cert_desk_rules.proofs.Meanings.{meaning_read}
use Rattle.cert_tool_limits.specs.Limits.{allows_as}
use Rattle.cert_tool_limits.proofs.key_uses.allows_as.Goals as goal

pub returns-in-Ok : goal.returns-in-Ok
returns-in-Ok c =
    c.is_consistent.ensures
    ∙ sym (ap (allows_as c.args.purpose.now) (meaning_read (tagged tags.BitString (leaf (named 9))) uses c.args.octets.now refl refl (λ i. omega (arith, c.type_inv.octets i)) _ c.in-Ok.ensures.exact (key_usage_in c.args.octets.now)))

pub returns-in-Err : goal.returns-in-Err
returns-in-Err c =
    sym (ap (allows_as c.args.purpose.now) (meaning_read (tagged tags.BitString (leaf (named 9))) uses c.args.octets.now refl refl (λ i. omega (arith, c.type_inv.octets i)) _ (c.in-Err.ensures.fault refl) (key_usage_in c.args.octets.now)))
