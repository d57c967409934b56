-- The numbers of nested levels that types need.
use Rattle.std.specs.Prelude.{◌≡◌, ℕ, suc, true}
use Rattle.der_types_tagged.specs.Der.Shapes.{Shape}
use Rattle.der_types_tagged.specs.Der.Spelling.{are_enough}

-- The type needs no level.
abbrev pub NeedsNone : Shape → Type 0
NeedsNone s = (room : ℕ) → are_enough s room ≡ true

-- The type needs one level more than its members.
abbrev pub NeedsOneMore : Shape → Shape → Type 0
NeedsOneMore s member = (room : ℕ) → are_enough s (suc room) ≡ are_enough member room
