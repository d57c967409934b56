-- Lemmas for records: a fact about the fields is a fact about the record.
use Rattle.std.proofs.Common.{◌≡◌, Bool, Result, subst}
use Rattle.der_core.specs.ErrorTypes.Error.{Error}
use Rattle.der_core.specs.Shapes.{Body, BodyValue, nested}
use Rattle.der_core.specs.Writing.{Out, Writes, write_content}

-- Writing the fields.
pub written : (b : Body) (v w : BodyValue b) (memory : Bool) (from to : Out) (r : Result (Unit {0}) Error) → v ≡ w
    → Writes memory from to r (write_content (nested b) v) → Writes memory from to r (write_content (nested b) w)
written b v w memory from to r e h = subst (λ (x : BodyValue b). Writes memory from to r (write_content (nested b) x)) e h
