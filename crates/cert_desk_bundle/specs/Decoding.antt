-- The value that bytes encode.
use Rattle.std.specs.Prelude.{◌≡◌, ℕ, List}
use Rattle.x509_cert_certificates.specs.Der.Shapes.{Shape, Value, Spells}

-- Either the one value whose encoding the bytes are, or the fact that they are no value's encoding.
-- No two values have the same encoding.
pub data Decoding (s : Shape) (octets : List ℕ) : Type 0 where
  decodes_to : (v : Value s) → Spells s v octets → Decoding s octets
  decodes_to_none : ((v : Value s) → Spells s v octets → ⊥) → Decoding s octets
