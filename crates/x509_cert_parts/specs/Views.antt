-- The abstract value of each type of this crate, as a value of its shape in `Grammar`.
use Rattle.std.specs.Prelude.{ℕ, List}
use Rattle.std.proofs.Common.{inl, inr}
use Rattle.der_core.specs.Dates.{Civil}
use Rattle.der_core.specs.Grammar.{plain_option, plain_list}
use Rattle.der_types.specs.Anys.{any_lent}
use Rattle.der_types.specs.BitStrings.{bits_lent}
use Rattle.x509_cert_parts.specs.Grammar.{Algorithm, PublicKey, PlainExtension, PlainTime}
use Rattle.x509_cert_parts.specs.Grammar.{PlainValidity}
use Rattle.x509_cert_parts.specs.declared.algorithm_identifier.AlgorithmIdentifier.{AlgorithmIdentifier}
use Rattle.x509_cert_parts.specs.declared.algorithm_identifier_ref.AlgorithmIdentifierRef.{AlgorithmIdentifierRef}
use Rattle.x509_cert_parts.specs.declared.extension.Extension.{Extension}
use Rattle.x509_cert_parts.specs.declared.subject_public_key_info.SubjectPublicKeyInfo.{SubjectPublicKeyInfo}
use Rattle.x509_cert_parts.specs.declared.subject_public_key_info_ref.SubjectPublicKeyInfoRef.{SubjectPublicKeyInfoRef}
use Rattle.x509_cert_parts.specs.declared.time.Time.{Time}
use Rattle.x509_cert_parts.specs.declared.time.Time.TheVariants as times
use Rattle.x509_cert_parts.specs.declared.validity.Validity.{Validity}
use Rattle.x509_cert_parts.specs.declared.version.Version.{Version}
use Rattle.x509_cert_parts.specs.declared.version.Version.TheVariants as versions

abbrev pub algorithm_plain : AlgorithmIdentifier → Algorithm
algorithm_plain a = (a.oid, (plain_option (λ p. p) a.parameters, tt))

abbrev pub algorithm_lent : AlgorithmIdentifierRef → Algorithm
algorithm_lent a = (a.oid, (plain_option any_lent a.parameters, tt))

abbrev pub key_plain : SubjectPublicKeyInfo → PublicKey
key_plain k = (algorithm_plain k.algorithm, (k.subject_public_key, tt))

abbrev pub key_lent : SubjectPublicKeyInfoRef → PublicKey
key_lent k = (algorithm_lent k.algorithm, (bits_lent k.subject_public_key, tt))

abbrev pub version_number : Version → ℕ
version_number versions.V1 = 0
version_number versions.V2 = 1
version_number versions.V3 = 2

abbrev pub extension_plain : Extension → PlainExtension
extension_plain e = (e.extn_id, (e.critical, (e.extn_value, tt)))

abbrev pub extensions_plain : List Extension → List PlainExtension
extensions_plain es = plain_list extension_plain es

-- A date and which of the two encodings it has.
abbrev pub time_value : Time → PlainTime
time_value (times.UtcTime t) = inl t
time_value (times.GeneralTime t) = inr t

-- The date of a time, in either encoding.
abbrev pub time_date : Time → Civil
time_date (times.UtcTime t) = t
time_date (times.GeneralTime t) = t

abbrev pub validity_plain : {P : Type 0} → Validity P → PlainValidity
validity_plain v = (time_value v.not_before, (time_value v.not_after, tt))
