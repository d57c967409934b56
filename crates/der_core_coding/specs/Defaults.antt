-- The encoding of a default.
use Rattle.std.specs.Prelude.{ℕ, List, ◌∷◌, ◌++◌, length}
use Rattle.der_core_values.specs.CoreHead.declared.tag.Tag.{Tag}
use Rattle.der_core_values.specs.CoreHead.Tags.{leading_octet, number_octets, number_of}

-- A tag, one byte for the length, and a content of fewer than 128 bytes.
abbrev pub short_tlv : Tag → List ℕ → List ℕ
short_tlv t c = leading_octet t ∷ (number_octets (number_of t) ++ (length c ∷ c))
