-- A lemma that computed properties of types use: if two tests are true, so is their conjunction.
use Rattle.std.specs.Prelude.{◌≡◌, Bool, true, false, ◌&&◌}

pub both_true : {a b : Bool} → a ≡ true → b ≡ true → (a && b) ≡ true
both_true {a = true} p q = q
both_true {a = false} p q = p
