-- Lemmas about errors: the reasons for which values can't be encoded or decoded.
use Rattle.std.proofs.Common.{◌≡◌, ◌≢◌, ◌⊎◌, ℕ, List, [], false, None, Ok, Err, inl, Result, ap, subst}
use Rattle.x509_cert_certificates.specs.Der.ErrorTypes.ErrorKind.{ErrorKind}
use Rattle.x509_cert_certificates.specs.Der.ErrorTypes.ErrorKind.TheVariants as kinds
use Rattle.x509_cert_certificates.specs.Der.Shapes.{IsValid, Shape, Value}
use Rattle.x509_cert_certificates.specs.Der.Writing.{write}
use Rattle.x509_cert_certificates.proofs.Der.Results.{or_memory}
use Rattle.x509_cert_extensions.specs.Making.{IsNotMade}
use Rattle.x509_cert_builders.specs.Refusals.{HasNoEncoding, FailsAs, IsWantOfMemory}
use Rattle.x509_cert_certificates.specs.Oid.Bound.{Bound}
use Rattle.x509_cert_certificates.specs.Der.Octets.{◌>>=◌}
use Rattle.x509_cert_extensions.specs.CertGeneralNames.Modules.{PlainOther, module_held}
use Rattle.x509_cert_builders.specs.Devices.{PlainGeneralName, module_name}
use Rattle.x509_cert_builders.specs.declared.build_error.Error.{Error}
use Rattle.x509_cert_builders.specs.declared.build_error.Error.TheVariants as errors

pub or_unwritten : (s : Shape) (v : Value s) (w : List ℕ) (kind : ErrorKind)
    → (IsValid s v → kind ≢ kinds.OutOfMemory → Ok w ≡ Err kind)
    → (kind ≢ kinds.OutOfMemory → write s v (record { written = []; room = None; failed = false }) ≡ Err kind)
    → (kind ≡ kinds.OutOfMemory) ⊎ HasNoEncoding s v kind
or_unwritten s v w kind valid fault = or_memory {X = HasNoEncoding s v kind} kind (λ enough. record { invalid = λ h. (let e = valid h enough in absurd cc); fault = fault enough })

-- The error of an extension that can't be made.
pub not_made : (s : Shape) (v : Value s) (kind : ErrorKind) → IsNotMade s v kind → (kind ≡ kinds.OutOfMemory) ⊎ HasNoEncoding s v kind
not_made s v kind h = or_memory kind (λ enough. record { invalid = λ valid. enough (h.valid valid); fault = h.fault enough })

-- A hardware module name as an OtherName and as a general name, and the error if it is rejected.

abbrev as_general : Result PlainOther ErrorKind → Result PlainGeneralName ErrorKind
as_general r = r >>= λ n. Ok (inl n)

-- The general name that contains a hardware module name, or the error if there is none.
pub module_named : (arcs version serial : List ℕ) (r : Result PlainOther ErrorKind) → arcs ≡ version → module_held Bound (arcs, (serial, tt)) ≡ r → module_name version serial ≡ as_general r
module_named arcs version serial r same e = ap as_general (subst (λ (a : List ℕ). module_held Bound (a, (serial, tt)) ≡ r) same e)

-- OutOfMemory is always a possible error.
pub want_fails : {X : Type 0} (r : Result X ErrorKind) (e : Error) → IsWantOfMemory e → FailsAs r e
want_fails r (errors.Asn1 e) h = λ other. absurd (other h)
want_fails r _ h = absurd h
