-- Concatenated encodings of values of one shape: the certificates of a chain, or the trust anchors
-- of a file.
use Rattle.std.specs.Prelude.{◌≡◌, ℕ, ◌≤◌, ◌<◌, ◌^◌, List, [], ◌∷◌, ◌++◌, length, flat_map}
use Rattle.std.specs.Prelude.{true}
use Rattle.std.specs.List.{AllByRecursion}
use Rattle.x509_cert_certificates.specs.Der.Shapes.{Shape, Value, octets_of, IsValid}
use Rattle.x509_cert_certificates.specs.Der.Spelling.{is_apart, is_element, are_enough}

-- Values of the shape can be distinguished, whatever follows them: each has a header, its
-- alternatives differ in their first tags, and a number of levels is enough for all.
pub record IsUnambiguous (s : Shape) : Type 0 where
  pub room : ℕ
  pub element : is_element s ≡ true
  pub apart : is_apart s ≡ true
  pub enough : are_enough s room ≡ true

-- The concatenated encodings of the values.
abbrev pub encodings : (s : Shape) → List (Value s) → List ℕ
encodings s vs = flat_map (octets_of s) vs

-- A value that may be in a series: it has an encoding, and that is within the limit.
pub record MayStand (s : Shape) (limit : ℕ) (v : Value s) : Type 0 where
  pub valid : IsValid s v
  pub within : length (octets_of s v) ≤ limit

-- The input is the concatenation of these values' encodings, each of which is within the limit, and
-- has fewer than 2^64 bytes.
pub record Series (s : Shape) (limit : ℕ) (vs : List (Value s)) (stream : List ℕ) : Type 0 where
  pub each : AllByRecursion (MayStand s limit) vs
  pub joins : stream ≡ encodings s vs
  pub fits : length stream < 2 ^ 64

-- The input begins with these values, and maybe with more.
pub record BeginsSeries (s : Shape) (limit : ℕ) (vs : List (Value s)) (stream : List ℕ) : Type 0
  where
    pub front : Series s limit vs (encodings s vs)
    pub more : List ℕ
    pub whole : stream ≡ encodings s vs ++ more

-- The input begins with exactly these values. The remainder doesn't begin with a further value that
-- may follow them.
pub record SeriesSplit (s : Shape) (limit : ℕ) (stream : List ℕ) (vs : List (Value s))
    (rest : List ℕ) : Type 0 where
  pub front : Series s limit vs (encodings s vs)
  pub whole : stream ≡ encodings s vs ++ rest
  pub longest : (v : Value s) (more : List ℕ)
      → Series s limit (vs ++ v ∷ []) (encodings s (vs ++ v ∷ [])) → rest ≡ octets_of s v ++ more
      → ⊥

-- These bytes begin with the encoding of this value.
pub record BeginsWith (s : Shape) (v : Value s) (octets : List ℕ) : Type 0 where
  pub valid : IsValid s v
  pub more : List ℕ
  pub whole : octets ≡ octets_of s v ++ more
