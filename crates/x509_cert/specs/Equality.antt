-- The meaning of `==` in terms of abstract values.
use Rattle.std.specs.Prelude.{Bool}
use Rattle.std.specs.declared.cmp.PartialEq.{Ghosts as Equality}
use Rattle.x509_cert_anchors.specs.Der.Equality.{IsOfValues}
use Rattle.x509_cert_anchors.specs.Der.Shapes.{Shape, Value, octets_of}
use Rattle.x509_cert_anchors.specs.Der.DecodeTypes.Shaped.{Ghosts as Shapes}

-- `eq` compares the abstract values of this shape.
pub record TellsValues (s : Shape) {T : Type 0} (eq : T → T → Bool) (plain : T → Value s)
    : Type 0 where
  pub by_value : IsOfValues eq plain (octets_of s)

-- `eq` compares the abstract values that the traits of the type name.
abbrev pub IsByValue : {T : Type 0} → Equality T → Shapes T → Type 0
IsByValue equality shapes = TellsValues shapes.shape equality.eq shapes.plain
