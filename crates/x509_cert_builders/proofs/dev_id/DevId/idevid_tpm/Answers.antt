-- Goals of `dev_id::DevId::idevid_tpm` that the checker doesn't prove by itself.
use Rattle.std.proofs.Common.{◌≡◌, Err, Ok, Some, [], ◌∷◌, ap, inl, rules}
use Rattle.x509_cert_certificates.specs.Der.Reading.{Fails}
use Rattle.x509_cert_certificates.specs.Der.Grammar.{plain_list}
use Rattle.x509_cert_extensions.specs.CertGeneralNames.GeneralNameViews.{general_name_plain, other_name_plain}
use Rattle.x509_cert_builders.specs.Devices.{PlainGeneralName, module_name, version_arcs}
use Rattle.x509_cert_builders.proofs.Faults.{module_named}
use Rattle.x509_cert_builders.proofs.dev_id.DevId.idevid_tpm.Goals as goal

pub returns-clause-module : goal.returns-clause-module
returns-clause-module c =
    let other = other_name_plain c.in_ok-other.other in
    let name : PlainGeneralName = inl other in
    let names : plain_list general_name_plain c.push.new.self.items ≡ name ∷ [] = search (rules, c.in_ok-push.ensures.items, c.new-names.ensures.items) in
    (name, module_named c.to_oid.result _ c.args.serial_number (Ok other) c.to_oid.ensures c.in_ok-other.ensures, ap (λ ns. Some ns) names)

pub returns-in_err-other-clause-refused : goal.returns-in_err-other-clause-refused
returns-in_err-other-clause-refused c =
    let kind = c.in_err-other.field-0.0.kind in
    let why : Fails kind (module_name (version_arcs c.args.hw_type) c.args.serial_number) =
    λ other. module_named c.to_oid.result _ c.args.serial_number (Err kind) c.to_oid.ensures (c.in_err-other.ensures other) in
    search (rules, why)
