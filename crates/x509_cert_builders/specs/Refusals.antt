-- The errors of builders.
use Rattle.std.specs.Prelude.{◌≡◌, [], false, None, Result, Err}
use Rattle.x509_cert_certificates.specs.Der.ErrorTypes.Error.{Error as DerError}
use Rattle.x509_cert_certificates.specs.Der.ErrorTypes.ErrorKind.{ErrorKind}
use Rattle.x509_cert_certificates.specs.Der.ErrorTypes.ErrorKind.TheVariants as kinds
use Rattle.x509_cert_certificates.specs.Der.Reading.{Fails}
use Rattle.x509_cert_certificates.specs.Der.Shapes.{IsValid, Shape, Value}
use Rattle.x509_cert_certificates.specs.Der.Writing.{write}
use Rattle.x509_cert_builders.specs.declared.build_error.Error.{Error}
use Rattle.x509_cert_builders.specs.declared.build_error.Error.TheVariants as errors
use Rattle.x509_cert_builders.specs.declared.sign_error.SignError.TheVariants as signers

-- The error is `Asn1` with this kind.
abbrev pub IsOfKind : ErrorKind → Error → Type 0
IsOfKind kind (errors.Asn1 e) = e.kind ≡ kind
IsOfKind kind _ = ⊥

-- The error is `Asn1` with OutOfMemory. A signer that runs out of memory is reported as
-- `Signature`.
abbrev pub IsWantOfMemory : Error → Type 0
IsWantOfMemory e = IsOfKind kinds.OutOfMemory e

-- The error is one that OutOfMemory is converted to.
abbrev pub IsWantOfMemoryAs : {E : Type 0} → (DerError → E → Type 0) → E → Type 0
IsWantOfMemoryAs becomes e = (w : DerError) × (w.kind ≡ kinds.OutOfMemory) × becomes w e

-- The error is `Asn1` with Failed.
abbrev pub IsFailed : Error → Type 0
IsFailed e = IsOfKind kinds.Failed e

-- The error is `Asn1` with the kind with which `r` fails, or with OutOfMemory.
abbrev pub FailsAs : {X : Type 0} → Result X ErrorKind → Error → Type 0
FailsAs r (errors.Asn1 e) = Fails e.kind r
FailsAs r _ = ⊥

-- The value has no encoding, for example because a length exceeds 2^32 - 1, and `kind` is the error
-- of encoding it.
pub record HasNoEncoding (s : Shape) (v : Value s) (kind : ErrorKind) : Type 0 where
  pub invalid : IsValid s v → ⊥
  pub fault : write s v (record { written = []; room = None; failed = false }) ≡ Err kind

-- The error is `Asn1` with the kind with which encoding the value fails.
abbrev pub IsUnwritten : (s : Shape) → Value s → Error → Type 0
IsUnwritten s v (errors.Asn1 e) = HasNoEncoding s v e.kind
IsUnwritten s v _ = ⊥

-- The error of a signer. It refuses only if it may; it may run out of memory at any time.
abbrev pub IsUnsigned : Type 0 → Error → Type 0
IsUnsigned may_refuse (errors.Signature e) = e ≡ signers.Refused → may_refuse
IsUnsigned may_refuse _ = ⊥
