-- SEQUENCE OF with at least one member (X.680 25, 51.5).
use Rattle.std.specs.Prelude.{◌≡◌, true}
use Rattle.std.proofs.lemmas.Bool.{or_left}
use Rattle.der_core.specs.Both.{both_true}
use Rattle.der_core.specs.Shapes.{Shape, field, many}
use Rattle.der_core.specs.Spelling.{is_apart, is_body_apart, is_element}

-- A first member and further members have unambiguous first tags.
pub one_apart : (s : Shape) → is_element s ≡ true → is_apart s ≡ true
    → is_body_apart (field s (many s)) ≡ true
one_apart s e a = both_true (or_left (is_element s) _ e) (both_true a (both_true e a))
