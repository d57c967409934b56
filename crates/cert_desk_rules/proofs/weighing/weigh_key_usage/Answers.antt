-- Goals of `weighing::weigh_key_usage`: decoded or not, the bytes have the meaning of their
-- encoding.
use Rattle.std.proofs.Common.{sym, ap, refl, ◌∙◌, arith}
use Rattle.cert_desk_bundle.specs.Der.Leaves.{named}
use Rattle.cert_desk_bundle.specs.Der.Shapes.{leaf, tagged}
use Rattle.cert_desk_bundle.specs.Der.TagTypes.Tag.TheVariants as tags
use Rattle.cert_desk_rules.specs.declared.weight.Weight.TheVariants as weights
use Rattle.cert_desk_rules.specs.Findings.{weight_of}
use Rattle.cert_desk_rules.specs.Weighing.{key_usage_in, uses}
use Rattle.cert_desk_rules.proofs.Meanings.{meaning_read}
use Rattle.cert_desk_rules.proofs.weighing.weigh_key_usage.Goals as goal

pub returns-in-Ok : goal.returns-in-Ok
returns-in-Ok c = λ purpose.
    ap weights.KeyUsage c.key_cert_sign.ensures
    ∙ sym (ap (weight_of purpose) (meaning_read (tagged tags.BitString (leaf (named 9))) uses c.args.octets.now refl refl (λ i. omega (arith, c.type_inv.octets i)) _ c.in-Ok.ensures.exact (key_usage_in c.args.octets.now)))

pub returns-in-Err : goal.returns-in-Err
returns-in-Err c = λ purpose.
    sym (ap (weight_of purpose) (meaning_read (tagged tags.BitString (leaf (named 9))) uses c.args.octets.now refl refl (λ i. omega (arith, c.type_inv.octets i)) _ (c.in-Err.ensures.fault refl) (key_usage_in c.args.octets.now)))
