-- The bytes where a value whose encoding is a SEQUENCE should begin: too few bytes, an error, or
-- the complete value.
use Rattle.std.specs.Prelude.{◌≡◌, ◌≢◌, ℕ, ◌+◌, ◌≤◌, ◌<◌, ◌^◌, List, ◌++◌, length, drop}
use Rattle.x509_cert_certificates.specs.Der.ErrorTypes.ErrorKind.{ErrorKind}
use Rattle.x509_cert_certificates.specs.Der.ErrorTypes.ErrorKind.TheVariants as errors
use Rattle.x509_cert_certificates.specs.Der.TagTypes.Tag.TheVariants as tags
use Rattle.x509_cert_certificates.specs.Der.Heads.{head_octets, Fits}
use Rattle.x509_cert_certificates.specs.Der.Shapes.{Shape, Body, Value, octets_of, sequence}
use Rattle.cert_desk_bundle.specs.declared.fault_kind.FaultKind.{FaultKind}
use Rattle.cert_desk_bundle.specs.declared.fault_kind.FaultKind.TheVariants as kinds
use Rattle.cert_desk_bundle.specs.Series.{MayStand}
use Rattle.cert_desk_bundle.specs.Faults.{whole_length, IsFault, NoneBefore}

-- These bytes don't begin with a value that may be here, and no kind of error applies to them yet.
pub record IsUnfinished (s : Shape) (limit offset : ℕ) (rest : List ℕ) : Type 0 where
  pub sound : NoneBefore s limit offset kinds.Truncated rest
  pub none : (v : Value s) (more : List ℕ) → MayStand s limit v → rest ≡ octets_of s v ++ more → ⊥

-- These bytes begin with a SEQUENCE of `len` bytes that may be here.
pub record HasWhole (limit offset : ℕ) (rest : List ℕ) (len : ℕ) : Type 0 where
  pub number : ℕ
  pub body : List ℕ
  pub more : List ℕ
  pub small : number < 2 ^ 32
  pub octets : rest ≡ (head_octets tags.Sequence number ++ body) ++ more
  pub content : length body ≡ number
  pub len_is : len ≡ whole_length number
  pub within : whole_length number ≤ limit
  pub fits : offset + whole_length number < 2 ^ 64

-- More can be decided once `wanted` bytes have arrived. As long as fewer have arrived, they don't
-- begin with a value, and no error applies to them. A complete SEQUENCE that begins with these
-- bytes has at least `wanted` bytes.
pub record Awaits (limit offset : ℕ) (rest : List ℕ) (wanted : ℕ) : Type 0 where
  pub short : length rest < wanted
  pub within : wanted ≤ limit
  pub fits : offset + wanted < 2 ^ 64 + 6
  pub unfinished : (b : Body) (more : List ℕ) → length (rest ++ more) < wanted
      → IsUnfinished (sequence b) limit offset (rest ++ more)
  pub exact : (more : List ℕ) (len : ℕ) → HasWhole limit offset (rest ++ more) len → wanted ≤ len

-- All of these bytes are one SEQUENCE, whose content begins at this offset.
pub record IsContentAt (octets : List ℕ) (start : ℕ) : Type 0 where
  pub fits : Fits octets
  pub whole : octets
      ≡ head_octets tags.Sequence (length (drop start octets)) ++ drop start octets
  pub start_is : start ≡ length (head_octets tags.Sequence (length (drop start octets)))

-- The number of bytes that are needed next. If they have arrived, they are a complete SEQUENCE.
pub record IsWanted (limit offset : ℕ) (rest : List ℕ) (wanted : ℕ) : Type 0 where
  pub whole : wanted ≤ length rest → HasWhole limit offset rest wanted
  pub awaits : length rest < wanted → Awaits limit offset rest wanted

-- An error that the header alone shows.
pub record IsEarlyFault (limit offset : ℕ) (rest : List ℕ) (kind : FaultKind) : Type 0 where
  pub not_malformed : kind ≢ kinds.Malformed
  pub not_truncated : kind ≢ kinds.Truncated
  pub fault : (b : Body) → IsFault (sequence b) limit offset kind rest

-- The kind of error of an input whose header has an error of this kind.
abbrev pub fault_of : ErrorKind → FaultKind
fault_of errors.IndefiniteLength = kinds.Indefinite
fault_of errors.Overlength = kinds.LengthTooWide
fault_of other = kinds.LengthNotShortest
