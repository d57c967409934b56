-- Attributes whose headers have two bytes each.
use Rattle.std.specs.Prelude.{◌≡◌, ℕ, ◌+◌, ◌<◌, List, [], ◌∷◌, ◌++◌, length, Result}
use Rattle.der_core.specs.ErrorTypes.ErrorKind.{ErrorKind}
use Rattle.der_core.specs.Octets.{◌>>=◌, IsOctets}
use Rattle.der_core.specs.Tags.{IsTag, tag_octets}
use Rattle.der_core.specs.TagTypes.Tag.{Tag}
use Rattle.der_core.specs.Writing.{Out, put}

-- `octets` are the encoding of an attribute in which each header has two bytes: a SEQUENCE (0x30)
-- of an OBJECT IDENTIFIER (0x06) with this content, and of a value with this tag and this content.
pub record IsPlain (identifier : List ℕ) (tag : Tag) (value octets : List ℕ) : Type 0 where
  pub leading : ℕ
  pub whole : octets ≡ 0x30 ∷ (length identifier + length value + 4) ∷ 0x06 ∷ length identifier
      ∷ (identifier ++ (leading ∷ length value ∷ value))
  pub short : length identifier + length value + 4 < 128
  pub tagged : tag_octets tag ≡ leading ∷ []
  pub known : IsTag tag
  pub are : IsOctets value

-- Writing four lists of bytes, one after another.
abbrev pub put_in_turn : List ℕ → List ℕ → List ℕ → List ℕ → Out → Result Out ErrorKind
put_in_turn a b c d o = put a o >>= λ o. put b o >>= λ o. put c o >>= put d
