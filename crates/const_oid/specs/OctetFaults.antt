-- The errors of bytes that aren't the encoding of an object identifier (X.690 8.19). An encoding
-- that is longer than the capacity is rejected first. Otherwise the error is that of the shortest
-- prefix that has one.
use Rattle.std.specs.Prelude.{◌≡◌, ℕ, zero, suc, ◌+◌, ◌*◌, ◌/◌, ◌%◌, ◌<◌, ◌≤◌, List, [], ◌∷◌, ◌++◌}
use Rattle.std.specs.Prelude.{length, map}
use Rattle.const_oid.specs.declared.error.Error.{Error}
use Rattle.const_oid.specs.declared.error.Error.TheVariants as errors
use Rattle.const_oid.specs.Digits.{digits}
use Rattle.const_oid.specs.IdentifierOctets.{identifier_octets, IsIdentifier}

-- The bytes of an unfinished arc of this value: its digits in base 128, all with bit 8 set. There
-- are none if the value is 0.
unfoldable pub begun : ℕ → List ℕ
begun zero = []
begun (suc n) = map (λ d. 128 + d) (digits 128 (suc n))

-- A prefix without an error: complete arcs, followed by the first bytes of an unfinished arc, which
-- have this value.
pub record IsOpen (bound : ℕ) (front arcs : List ℕ) (value : ℕ) : Type 0 where
  pub identifier : IsIdentifier bound arcs
  pub within : 0 < value → value < bound
  pub octets : front ≡ identifier_octets arcs ++ begun value

-- The error of an arc: of the byte after a prefix without an error, or of the end of the bytes.
pub data IsArcFault (bound : ℕ) (w : List ℕ) : Error → Type 0 where
  -- An arc begins with the byte 0x80.
  leading_zero : (front rest arcs : List ℕ) → w ≡ front ++ (128 ∷ rest) → IsOpen bound front arcs 0
      → IsArcFault bound w errors.Base128
  -- An arc reaches the bound.
  too_big : (front rest arcs : List ℕ) (value o : ℕ) → w ≡ front ++ (o ∷ rest)
      → IsOpen bound front arcs value → ((value ≡ 0) × (o ≡ 128) → ⊥)
      → bound ≤ value * 128 + o % 128 → IsArcFault bound w errors.ArcTooBig
  -- The bytes end inside an arc.
  unfinished : (arcs : List ℕ) (value : ℕ) → IsOpen bound w arcs value → 0 < value
      → IsArcFault bound w errors.Base128

-- The errors, in the order in which they are checked.
pub data IsOctetsFault (bound capacity : ℕ) (w : List ℕ) : Error → Type 0 where
  -- There is no byte.
  no_octet : w ≡ [] → IsOctetsFault bound capacity w errors.Empty
  -- There are more bytes than the capacity.
  too_long : capacity < length w → IsOctetsFault bound capacity w errors.Length
  -- The first byte is above 119, so the first arc would be above 2.
  root_invalid : (r : ℕ) (rest : List ℕ) → w ≡ r ∷ rest → length w ≤ capacity → 120 ≤ r
      → IsOctetsFault bound capacity w (errors.ArcInvalid (r / 40))
  -- An arc has an error.
  arc : (e : Error) → length w ≤ capacity → IsArcFault bound w e → IsOctetsFault bound capacity w e
