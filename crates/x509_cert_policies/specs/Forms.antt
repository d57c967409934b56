-- The presentation language of TLS (RFC 5246 4.3 to 4.6): the forms of types, their abstract
-- values, and the encoding of these.
use Rattle.std.specs.Prelude.{◌≡◌, ◌≢◌, ◌<◌, ◌^◌, ◌==◌, ◌⊎◌, ℕ, List, [], ◌∷◌, ◌++◌, length, take}
use Rattle.std.specs.Prelude.{IsTrue}
use Rattle.std.specs.List.{AllByRecursion, list_any}
use Rattle.std.specs.Int.{to_be_bytes, w16, w64}
use Rattle.x509_cert_policies.specs.declared.tls_error.TlsError.{TlsError}
use Rattle.x509_cert_policies.specs.declared.tls_error.TlsError.TheVariants.{EndOfStream}
use Rattle.x509_cert_policies.specs.declared.tls_error.TlsError.TheVariants.{UnknownValue}
use Rattle.x509_cert_policies.specs.declared.tls_error.TlsError.TheVariants.{TrailingData}
use Rattle.x509_cert_policies.specs.declared.tls_error.TlsError.TheVariants.{InvalidVectorLength}
use Rattle.x509_cert_policies.specs.declared.tls_error.TlsError.TheVariants.{OutOfMemory}

-- The forms of the types that timestamps use.
pub data Form : Type 0 where
  named : List ℕ → Form  -- an enum of one byte that has these numbers (4.5)
  long : Form  -- uint64 (4.4)
  exactly : ℕ → Form  -- opaque T[n] (4.3)
  vector : Form  -- opaque T<0..2^16-1> (4.3)
  pair : Form → Form → Form  -- the fields of a struct, in turn (4.6)

-- The abstract values of a form.
abbrev pub Plain : Form → Type 0
Plain (named numbers) = ℕ
Plain long = ℕ
Plain (exactly n) = List ℕ
Plain vector = List ℕ
Plain (pair f g) = Plain f × Plain g

-- A number of two bytes in big-endian order (4.4).
unfoldable pub short_octets : ℕ → List ℕ
short_octets n = to_be_bytes w16 n

-- A number of eight bytes in big-endian order (4.4).
unfoldable pub long_octets : ℕ → List ℕ
long_octets n = to_be_bytes w64 n

-- The encoding of a value, if it has one.
abbrev pub octets : (f : Form) → Plain f → List ℕ
octets (named numbers) v = v ∷ []
octets long v = long_octets v
octets (exactly n) v = v
octets vector v = short_octets (length v) ++ v
octets (pair f g) v = octets f v.0 ++ octets g v.1

-- The value has an encoding: its numbers are in range, and its vectors aren't too long.
abbrev pub IsValue : (f : Form) → Plain f → Type 0
IsValue (named numbers) v = IsTrue (list_any (λ n. n == v) numbers)
IsValue long v = v < 2 ^ 64
IsValue (exactly n) v = length v ≡ n
IsValue vector v = length v < 2 ^ 16
IsValue (pair f g) v = IsValue f v.0 × IsValue g v.1

-- The bytes begin with the encoding of the value, and `rest` follows.
pub record Spells (f : Form) (v : Plain f) (input rest : List ℕ) : Type 0 where
  pub value : IsValue f v
  pub split : input ≡ octets f v ++ rest

-- The bytes end within the length of a vector or within the vector.
abbrev pub EndsInVector : List ℕ → Type 0
EndsInVector input = (length input < 2)
    ⊎ ((n : ℕ) × (rest : List ℕ) × (n < 2 ^ 16) × (input ≡ short_octets n ++ rest)
    × (length rest < n))

-- The bytes begin with a number that isn't in the list.
abbrev pub HasUnknown : List ℕ → List ℕ → TlsError → Type 0
HasUnknown numbers input e = (n : ℕ) × (rest : List ℕ) × (input ≡ n ∷ rest)
    × AllByRecursion (λ m. n ≢ m) numbers × (e ≡ UnknownValue n)

-- The bytes begin with no encoding of the form, and this is the first error from the left.
abbrev pub Refuses : (f : Form) → List ℕ → TlsError → Type 0
Refuses (named numbers) input e = ((input ≡ []) × (e ≡ EndOfStream)) ⊎ HasUnknown numbers input e
Refuses long input e = (length input < 8) × (e ≡ EndOfStream)
Refuses (exactly n) input e = (length input < n) × (e ≡ EndOfStream)
Refuses vector input e = EndsInVector input × (e ≡ EndOfStream)
Refuses (pair f g) input e = Refuses f input e
    ⊎ ((v : Plain f) × (rest : List ℕ) × Spells f v input rest × Refuses g rest e)

-- Decoding into owned values fails: it allocates, so memory may also run out.
abbrev pub FailsOn : (f : Form) → List ℕ → TlsError → Type 0
FailsOn f input e = (e ≡ OutOfMemory) ⊎ Refuses f input e

-- The bytes aren't the encoding of one value: they begin with none, or other bytes follow it.
abbrev pub RefusesWhole : (f : Form) → List ℕ → TlsError → Type 0
RefusesWhole f input e = Refuses f input e
    ⊎ ((v : Plain f) × (rest : List ℕ) × Spells f v input rest × (rest ≢ []) × (e ≡ TrailingData))

-- The encoding of the value was appended to the bytes.
pub record Appends (f : Form) (v : Plain f) (old new : List ℕ) : Type 0 where
  pub value : IsValue f v
  pub octets_behind : new ≡ old ++ octets f v

-- The new bytes begin with the old ones.
abbrev pub StillBegins : List ℕ → List ℕ → Type 0
StillBegins old new = take (length old) new ≡ old

-- Encoding fails only if memory runs out or a vector is too long.
abbrev pub CannotWrite : (f : Form) → Plain f → TlsError → Type 0
CannotWrite f v e = (e ≡ OutOfMemory) ⊎ ((e ≡ InvalidVectorLength) × (¬ IsValue f v))
