-- The errors of an input that should consist of values of one shape, whose encodings are SEQUENCEs.
-- The error is the first one after the values with which the input begins.
use Rattle.std.specs.Prelude.{◌≡◌, ◌≢◌, ℕ, ◌+◌, ◌≤◌, ◌<◌, ◌^◌, ◌⊎◌, List, [], ◌∷◌, ◌++◌, length}
use Rattle.x509_cert_certificates.specs.Der.TagTypes.Tag.TheVariants as tags
use Rattle.x509_cert_certificates.specs.Der.Heads.{head_octets, length_octets}
use Rattle.x509_cert_certificates.specs.Der.Shapes.{Shape, Value, octets_of, IsValid}
use Rattle.x509_cert_certificates.specs.Certificates.{PlainCertificate, raw_certificate}
use Rattle.cert_desk_bundle.specs.declared.fault_kind.FaultKind.{FaultKind}
use Rattle.cert_desk_bundle.specs.declared.fault_kind.FaultKind.TheVariants as kinds
use Rattle.cert_desk_bundle.specs.Series.{SeriesSplit, encodings}

-- The length of a SEQUENCE whose content has this length, with the header.
abbrev pub whole_length : ℕ → ℕ
whole_length n = length (head_octets tags.Sequence n) + n

-- This kind of error applies to the bytes at an offset of the input, where a value should begin.
-- `TooLarge` applies in two cases: the value is longer than the size limit, or it would end at
-- offset 2^64 of the input or after it.
abbrev pub Says : Shape → ℕ → ℕ → FaultKind → List ℕ → Type 0
Says s limit offset kinds.NoCertificate rest = (b : ℕ) × (w : List ℕ) × (rest ≡ b ∷ w) × (b ≢ 0x30)
Says s limit offset kinds.Indefinite rest = (w : List ℕ) × (rest ≡ 0x30 ∷ 0x80 ∷ w)
Says s limit offset kinds.LengthTooWide rest = (n : ℕ) × (w : List ℕ) × (rest ≡ 0x30 ∷ n ∷ w)
    × (0x85 ≤ n)
Says s limit offset kinds.LengthNotShortest rest =
    (octets : List ℕ) × (w : List ℕ) × (rest ≡ 0x30 ∷ (0x80 + length octets) ∷ (octets ++ w))
    × (0 < length octets) × (length octets ≤ 4)
    × ((n : ℕ) → length_octets n ≢ (0x80 + length octets) ∷ octets)
Says s limit offset kinds.TooLarge rest =
    (n : ℕ) × (w : List ℕ) × (n < 2 ^ 32) × (rest ≡ head_octets tags.Sequence n ++ w)
    × ((limit < whole_length n) ⊎ (2 ^ 64 ≤ offset + whole_length n))
Says s limit offset kinds.Malformed rest =
    (n : ℕ) × (body : List ℕ) × (w : List ℕ) × (n < 2 ^ 32)
    × (rest ≡ (head_octets tags.Sequence n ++ body) ++ w) × (length body ≡ n)
    × ((v : Value s) → IsValid s v → octets_of s v ≡ head_octets tags.Sequence n ++ body → ⊥)
Says s limit offset kinds.Truncated rest = rest ≢ []

-- The order in which the kinds of errors are checked.
abbrev pub rank : FaultKind → ℕ
rank kinds.NoCertificate = 1
rank kinds.Indefinite = 2
rank kinds.LengthTooWide = 3
rank kinds.LengthNotShortest = 4
rank kinds.TooLarge = 5
rank kinds.Malformed = 6
rank kinds.Truncated = 7

-- No kind before this one applies.
abbrev pub NoneBefore : Shape → ℕ → ℕ → FaultKind → List ℕ → Type 0
NoneBefore s limit offset kind rest = (other : FaultKind) → rank other < rank kind
    → Says s limit offset other rest → ⊥

-- This kind is the first one that applies.
pub record IsFault (s : Shape) (limit offset : ℕ) (kind : FaultKind) (rest : List ℕ) : Type 0 where
  pub says : Says s limit offset kind rest
  pub first : NoneBefore s limit offset kind rest

-- The error after the values with which an input begins. It is `Truncated` if the input ends inside
-- a value.
pub record SeriesFault (s : Shape) (limit : ℕ) (stream : List ℕ) (vs : List (Value s))
    (kind : FaultKind) : Type 0 where
  pub rest : List ℕ
  pub split : SeriesSplit s limit stream vs rest
  pub fault : IsFault s limit (length (encodings s vs)) kind rest

-- The input begins with exactly these certificates. The remainder doesn't begin with a further
-- certificate that may follow them.
abbrev pub Split : ℕ → ℕ → List ℕ → List PlainCertificate → List ℕ → Type 0
Split bound limit stream cs rest = SeriesSplit (raw_certificate bound) limit stream cs rest

-- The error after the certificates with which an input begins.
abbrev pub StreamFault : ℕ → ℕ → List ℕ → List PlainCertificate → FaultKind → Type 0
StreamFault bound limit stream cs kind = SeriesFault (raw_certificate bound) limit stream cs kind
