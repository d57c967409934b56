-- The result of a call that is specified by a relation rather than a function.
use Rattle.std.specs.Prelude.{◌≢◌, Result, Ok, Err}
use Rattle.der_core.specs.ErrorTypes.Error.{Error}
use Rattle.der_core.specs.ErrorTypes.ErrorKind.{ErrorKind}
use Rattle.der_core.specs.ErrorTypes.ErrorKind.TheVariants as kinds

-- `view` of the value that a call returns, or the kind of its error, is related by `R`. If memory
-- runs out, nothing is claimed.
abbrev pub GivesBy : {X P : Type 0} → (X → P) → Result X Error → (Result P ErrorKind → Type 0)
    → Type 0
GivesBy view (Ok x) R = R (Ok (view x))
GivesBy view (Err e) R = e.kind ≢ kinds.OutOfMemory → R (Err e.kind)
