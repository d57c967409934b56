-- The shapes for which decoding accepts exactly the encodings.
use Rattle.std.specs.Prelude.{◌≡◌, true}
use Rattle.x509_cert_anchors.specs.Der.Limits.{levels_max}
use Rattle.x509_cert_anchors.specs.Der.Shapes.{Shape}
use Rattle.x509_cert_anchors.specs.Der.Spelling.{are_enough, is_apart}

-- The tags of the fields determine which field comes next, and the shape doesn't exceed the levels
-- of nesting that a reader allows.
abbrev pub IsApartWithinLevels : Shape → Type 0
IsApartWithinLevels s = (is_apart s ≡ true) × (are_enough s levels_max ≡ true)
