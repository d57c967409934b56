-- Devices with a secure identity (IEEE 802.1AR 8).
use Rattle.std.specs.Prelude.{⊤, ℕ, List, [], ◌∷◌, length, ◌==◌, Bool, false, Option, Some, None}
use Rattle.std.specs.Prelude.{Result, Ok, Err, IsOk, if◌then◌else◌}
use Rattle.std.proofs.Common.{inl, inr}
use Rattle.x509_cert_certificates.specs.Oid.Bound.{Bound}
use Rattle.x509_cert_certificates.specs.Oid.Comparing.{owned_eq}
use Rattle.x509_cert_certificates.specs.Der.ErrorTypes.ErrorKind.{ErrorKind}
use Rattle.x509_cert_certificates.specs.Der.ErrorTypes.ErrorKind.TheVariants as kinds
use Rattle.x509_cert_certificates.specs.Der.TagTypes.Tag.TheVariants.{Sequence}
use Rattle.x509_cert_certificates.specs.Der.Grammar.{plain_list, plain_option}
use Rattle.x509_cert_certificates.specs.Der.Octets.{◌>>=◌}
use Rattle.x509_cert_certificates.specs.Der.Shapes.{Value, nested, sequence_of}
use Rattle.x509_cert_certificates.specs.CertNames.Names.{PlainName}
use Rattle.x509_cert_certificates.specs.CertParts.Grammar.{PlainExtension, PublicKey}
use Rattle.x509_cert_certificates.specs.Types.Contents.{content_as}
use Rattle.x509_cert_extensions.specs.CertGeneralNames.GeneralNames.{general_name}
use Rattle.x509_cert_extensions.specs.CertGeneralNames.GeneralNames.{hardware_module_name_fields}
use Rattle.x509_cert_extensions.specs.CertGeneralNames.Modules.{PlainModule, module_arcs}
use Rattle.x509_cert_extensions.specs.CertGeneralNames.Modules.{module_held}
use Rattle.x509_cert_extensions.specs.CertGeneralNames.GeneralNameViews.{general_name_plain}
use Rattle.x509_cert_certificates.specs.CertParts.ExtensionTypes.{id_ce}
use Rattle.x509_cert_extensions.specs.Making.{extension_of}
use Rattle.x509_cert_builders.specs.Profiles.{authority_key_extension, digital_signature}
use Rattle.x509_cert_builders.specs.Profiles.{usage_extension}
use Rattle.x509_cert_builders.specs.Refusals.{FailsAs, IsUnwritten}
use Rattle.x509_cert_builders.specs.declared.build_error.Error.{Error}
use Rattle.x509_cert_builders.specs.declared.dev_id.DevId.{DevId}
use Rattle.x509_cert_builders.specs.declared.tpm_version.TpmVersion.{TpmVersion}
use Rattle.x509_cert_builders.specs.declared.tpm_version.TpmVersion.TheVariants as versions

-- The abstract value of a general name.
abbrev pub PlainGeneralName : Type 0
PlainGeneralName = Value (general_name 0)

-- The general name is an otherName with the OID of hardware module names (RFC 4108 5).
abbrev pub is_of_module : PlainGeneralName → Bool
is_of_module (inl n) = owned_eq n.0 module_arcs
is_of_module (inr n) = false

-- The result of decoding the hardware module name in a general name. Other kinds of names yield
-- Failed.
abbrev pub module_of : PlainGeneralName → Result PlainModule ErrorKind
module_of (inl n) = content_as Sequence (nested (hardware_module_name_fields Bound)) n.1.0
module_of (inr n) = Err kinds.Failed

-- The result of decoding the first hardware module name in a list, or Failed if there is none.
abbrev pub first_module : List PlainGeneralName → Result PlainModule ErrorKind
first_module [] = Err kinds.Failed
first_module (n ∷ more) = if is_of_module n then module_of n else first_module more

-- A device may have these alternative names: there are none, or the value of the first hardware
-- module name is valid (IEEE 802.1AR 8.10.4).
abbrev pub MayHave : Option (List PlainGeneralName) → Type 0
MayHave None = ⊤
MayHave (Some names) = IsOk (first_module names)

-- The error if a device must not have these alternative names, or OutOfMemory.
abbrev pub MayNotHave : Option (List PlainGeneralName) → Error → Type 0
MayNotHave None e = ⊥
MayNotHave (Some names) e = FailsAs (first_module names) e

-- The general name that contains the hardware module name with this type and serial number, if its
-- encoding has fewer than 2^32 bytes.
abbrev pub module_name : List ℕ → List ℕ → Result PlainGeneralName ErrorKind
module_name arcs serial = module_held Bound (arcs, (serial, tt)) >>= λ n. Ok (inl n)

-- The OID of a version of the TPM.
abbrev pub version_arcs : TpmVersion → List ℕ
version_arcs versions.Tpm12 = 2 ∷ 23 ∷ 133 ∷ 1 ∷ 0 ∷ []
version_arcs versions.Tpm20 = 2 ∷ 23 ∷ 133 ∷ 1 ∷ 2 ∷ []
version_arcs (versions.Other oid) = oid

-- SubjectAltName, which is critical if the subject's name is empty (RFC 5280 4.2.1.6).
abbrev pub alternatives : PlainName → Option (List PlainGeneralName) → List PlainExtension
alternatives subject None = []
alternatives subject (Some names) =
    extension_of (id_ce 17) (length subject == 0)
    (sequence_of (general_name Bound)) names ∷ []

-- The extensions of a device's certificate (IEEE 802.1AR 8.10).
abbrev pub device_extensions : Option (List PlainGeneralName) → PlainName → PublicKey
    → List PlainExtension
device_extensions names subject issuer_key = authority_key_extension issuer_key
    ∷ usage_extension digital_signature ∷ alternatives subject names

-- The alternative names of a device.
abbrev pub device_names : DevId → Option (List PlainGeneralName)
device_names d = plain_option (λ v. plain_list general_name_plain v.0.items) d.subject_alt_name

-- The alternative names have no encoding, for example because a length exceeds 2^32 - 1, and this
-- is the error of encoding them.
abbrev pub IsUnnameable : Option (List PlainGeneralName) → Error → Type 0
IsUnnameable None e = ⊥
IsUnnameable (Some names) e = IsUnwritten (sequence_of (general_name Bound)) names e
