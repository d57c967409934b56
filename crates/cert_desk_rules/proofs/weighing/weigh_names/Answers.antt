-- Goals of `weighing::weigh_names`: decoded or not, the bytes have the meaning of their encoding.
use Rattle.std.proofs.Common.{sym, ap, refl, arith}
use Rattle.cert_desk_bundle.specs.Oid.Bound.{Bound}
use Rattle.x509_cert_extensions.specs.CertGeneralNames.GeneralNames.{general_names}
use Rattle.cert_desk_rules.specs.Findings.{weight_of}
use Rattle.cert_desk_rules.specs.Weighing.{other_names, subject_alt_name_in}
use Rattle.cert_desk_rules.proofs.ExtensionLaws.{malformed_as}
use Rattle.cert_desk_rules.proofs.Meanings.{meaning_read}
use Rattle.cert_desk_rules.proofs.weighing.weigh_names.Goals as goal
use Rattle.cert_desk_rules.proofs.weighing.weigh_names.Goals.{in-Ok, in-Err}

pub returns : goal.returns
returns c =
    let w = c.args.octets.now in
    let says = meaning_read (general_names Bound) other_names w refl refl (λ i. omega (arith, c.type_inv.octets i)) in
    elim c.match-list_in.branch [
      | in-Ok b ↦ rw b.result-is (λ purpose. sym (ap (weight_of purpose) (says _ b.in-Ok.ensures (subject_alt_name_in Bound w))))
      | in-Err b ↦ rw b.result-is (malformed_as b.malformed.result _ b.malformed.ensures (λ apart. says _ (b.in-Err.ensures apart) (subject_alt_name_in Bound w)))
    ]
