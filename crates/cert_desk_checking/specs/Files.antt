-- Files of concatenated values of a shape. Each value gives an item, or none for a reason.
use Rattle.std.specs.Prelude.{◌≡◌, ◌≢◌, ℕ, ◌+◌, List, [], ◌++◌, length, map, drop, Result, Ok, Err}
use Rattle.std.specs.List.{AllByRecursion}
use Rattle.x509_cert_anchors.specs.Der.Shapes.{Shape, Value, octets_of, IsValid}
use Rattle.cert_desk_rules.specs.DeskBundle.Series.{encodings, BeginsWith}

-- Each of the values has an encoding, and they give these items.
pub record GiveAll (s : Shape) {A E : Type 0} (gives : Value s → Result A E) (vs : List (Value s))
    (xs : List A) : Type 0 where
  pub each : AllByRecursion (IsValid s) vs
  pub given : map gives vs ≡ map (λ x. Ok x) xs

-- The bytes are the concatenated encodings of values that give these items.
pub record IsFileOf (s : Shape) {A E : Type 0} (gives : Value s → Result A E) (octets : List ℕ)
    (xs : List A) : Type 0 where
  pub values : List (Value s)
  pub give : GiveAll s gives values xs
  pub joins : octets ≡ encodings s values

-- There are some bytes, and they don't begin with a value.
abbrev pub BeginsNone : Shape → List ℕ → Type 0
BeginsNone s octets = (octets ≢ []) × ((v : Value s) → BeginsWith s v octets → ⊥)

-- The bytes begin with a value that gives no item, for this reason.
pub record BeginsRefused (s : Shape) {A E : Type 0} (gives : Value s → Result A E) (error : E)
    (octets : List ℕ) : Type 0 where
  pub value : Value s
  pub begins : BeginsWith s value octets
  pub refused : gives value ≡ Err error

-- Some values give items, and after them, at this offset, the first wrong bytes begin.
pub record HasFirstWrong (s : Shape) {A E : Type 0} (gives : Value s → Result A E)
    (wrong : List ℕ → Type 0) (octets : List ℕ) (offset : ℕ) : Type 0 where
  pub values : List (Value s)
  pub xs : List A
  pub give : GiveAll s gives values xs
  pub rest : List ℕ
  pub whole : octets ≡ encodings s values ++ rest
  pub offset_is : offset ≡ length (encodings s values)
  pub is_wrong : wrong rest

-- This value is encoded between these two offsets.
pub record StandsAt (s : Shape) (octets : List ℕ) (start end : ℕ) (v : Value s) : Type 0 where
  pub valid : IsValid s v
  pub whole : drop start octets ≡ octets_of s v ++ drop end octets
  pub end_is : end ≡ start + length (octets_of s v)

-- A value is encoded between these two offsets, and gives this item.
pub record GivesAt (s : Shape) {A E : Type 0} (gives : Value s → Result A E) (octets : List ℕ)
    (start end : ℕ) (x : A) : Type 0 where
  pub value : Value s
  pub stands : StandsAt s octets start end value
  pub given : gives value ≡ Ok x
