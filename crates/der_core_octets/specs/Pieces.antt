-- The abstract values of the parts of a body of indefinite length.
use Rattle.std.specs.Prelude.{ℕ, Option, Some, None}
use Rattle.der_core_head.specs.declared.length.Length.{Length}
use Rattle.der_core_head.specs.Bodies as bodies
use Rattle.der_core_octets.specs.declared.indefinite.Mark.{Mark}
use Rattle.der_core_octets.specs.declared.indefinite.Piece.{Piece}
use Rattle.der_core_octets.specs.declared.indefinite.Piece.TheVariants.{Ending, Opening, Encoding}

abbrev pub number_of_length : Option Length → Option ℕ
number_of_length None = None
number_of_length (Some n) = Some n.value

-- The abstract value of a tag and its length.
abbrev pub plain_mark : Mark → bodies.Mark
plain_mark m = record { tag = m.tag; len = number_of_length m.length }

-- The abstract value of a part.
abbrev pub plain_piece : Piece → bodies.Piece
plain_piece Ending = bodies.ending
plain_piece Opening = bodies.opening
plain_piece Encoding = bodies.encoding
