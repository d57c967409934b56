-- Extensions whose content is the encoding of a value.
use Rattle.std.specs.Prelude.{◌≡◌, ℕ, List, [], Bool, false, None}
use Rattle.x509_cert_policies.specs.Der.ErrorTypes.ErrorKind.{ErrorKind}
use Rattle.x509_cert_policies.specs.Der.ErrorTypes.ErrorKind.TheVariants.{OutOfMemory}
use Rattle.x509_cert_policies.specs.Der.Reading.{Fails}
use Rattle.x509_cert_policies.specs.Der.Shapes.{Shape, Value, IsValid, octets_of}
use Rattle.x509_cert_policies.specs.Der.Writing.{write}
use Rattle.x509_cert_policies.specs.CertParts.Grammar.{PlainExtension}

-- The extension with this OID and this criticality whose content is the encoding of the value.
abbrev pub extension_of : List ℕ → Bool → (s : Shape) → Value s → PlainExtension
extension_of arcs critical s v = (arcs, (critical, (octets_of s v, tt)))

-- The error with which building the extension fails: memory runs out, or the value has no encoding
-- and this is the error of the encoder.
pub record IsNotMade (s : Shape) (v : Value s) (k : ErrorKind) : Type 0 where
  pub valid : IsValid s v → k ≡ OutOfMemory
  pub fault : Fails k (write s v (record { written = []; room = None; failed = false }))
