-- The outcome of decoding: its error, or success without the decoded arcs.
use Rattle.std.specs.Prelude.{ℕ, List, Result, Ok, Err}
use Rattle.const_oid.specs.declared.error.Error.{Error}

abbrev pub outcome : Result (List ℕ) Error → Result (Unit {0}) Error
outcome (Ok arcs) = Ok tt
outcome (Err e) = Err e
