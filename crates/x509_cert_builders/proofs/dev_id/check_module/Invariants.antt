-- The loop invariant of `dev_id::check_module`: no name so far is a hardware module name, so the
-- first one is among the remaining names.
use Rattle.std.proofs.Common.{◌≡◌, drop}
use Rattle.x509_cert_certificates.specs.Der.Grammar.{plain_list}
use Rattle.x509_cert_extensions.specs.CertGeneralNames.GeneralNameViews.{general_name_plain}
use Rattle.x509_cert_builders.specs.Devices.{first_module}
use Rattle.x509_cert_builders.proofs.dev_id.check_module.Given as goal

abbrev pub invariant-loop-place : goal.invariant-loop-place
invariant-loop-place l = first_module (plain_list general_name_plain (drop l.place l.names)) ≡ first_module (plain_list general_name_plain l.names)
