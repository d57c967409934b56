-- The order of the members of a set.
use Rattle.std.specs.Prelude.{Bool, true, false}
use Rattle.der_core_values.specs.CoreHead.Shapes.{Step, above, not_below}

-- The order of sets in which equal members are allowed, or aren't.
abbrev pub step_of : Bool → Step
step_of true = not_below
step_of false = above
