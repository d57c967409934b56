-- The result of a call that may allocate or not.
use Rattle.std.specs.Prelude.{Bool, true, false, Result}
use Rattle.der_core_octets.specs.CoreHead.declared.error.Error.{Error}
use Rattle.der_core_octets.specs.CoreHead.declared.error.ErrorKind.{ErrorKind}
use Rattle.der_core_octets.specs.CoreHead.Reading.{Gives, GivesNow}

-- The call returned what the decoder gives; if it allocates, memory may have run out instead.
abbrev pub GivesTaking : {X P : Type 0} → Bool → (X → P) → Result X Error → Result P ErrorKind
    → Type 0
GivesTaking true view r p = Gives view r p
GivesTaking false view r p = GivesNow view r p
