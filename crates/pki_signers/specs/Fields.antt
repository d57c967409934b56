-- The first field of a SEQUENCE, as a part of its encoding (X.690 8.1.1, 8.9).
use Rattle.std.specs.Prelude.{◌≡◌, ℕ, List, ◌++◌}
use Rattle.der_core.specs.TagTypes.Tag.{Tag}
use Rattle.der_core.specs.TagTypes.Tag.TheVariants as tags
use Rattle.der_core.specs.Tags.{IsTag}
use Rattle.der_core.specs.Heads.{tlv, Fits}

-- The bytes begin with this part, which is a header and as many bytes as the header says.
pub record BeginsWith (octets part : List ℕ) : Type 0 where
  pub tag : Tag
  pub contents : List ℕ
  pub after : List ℕ
  pub whole : octets ≡ part ++ after
  pub part_is : part ≡ tlv tag contents
  pub tag_is : IsTag tag
  pub fits : Fits contents

-- All of the bytes are one SEQUENCE, and its content begins with this part.
pub record IsFirstField (octets part : List ℕ) : Type 0 where
  pub contents : List ℕ
  pub whole : octets ≡ tlv tags.Sequence contents
  pub fits : Fits contents
  pub first : BeginsWith contents part
