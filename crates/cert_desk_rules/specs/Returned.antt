-- The status that a call returns.
use Rattle.std.specs.Prelude.{◌≡◌, ◌⊎◌, ◌↔◌, ℕ, List}
use Rattle.cert_desk_bundle.specs.DeskIo.declared.exit_status.ExitStatus.{ExitStatus}
use Rattle.cert_desk_bundle.specs.DeskIo.declared.exit_status.ExitStatus.TheVariants as statuses
use Rattle.cert_desk_bundle.specs.DeskIo.Statuses.{code_of}
use Rattle.cert_desk_rules.specs.Rooms.{Exceeds, Fits}

-- A call returns the number of a status, and each status exactly if `IsSo` holds for it.
pub record IsExact (IsSo : ExitStatus → Type 0) (returned : ℕ) : Type 0 where
  pub known : (status : ExitStatus) × (returned ≡ code_of status)
  pub exact : (status : ExitStatus) → (returned ≡ code_of status) ↔ IsSo status

-- A call returns each status exactly if `IsSo` holds for it, or it returns `Memory`.
abbrev pub IsExactWithMemory : (ExitStatus → Type 0) → ℕ → Type 0
IsExactWithMemory IsSo returned = IsExact IsSo returned ⊎ (returned ≡ code_of statuses.Memory)

-- The status if there is no value: the bytes aren't the encoding of one.
abbrev pub IsFaultyStatus : Type 0 → ExitStatus → Type 0
IsFaultyStatus None statuses.Faulty = None
IsFaultyStatus None _ = ⊥

-- The status of a call that looks for a value. Either there is one or there is none.
abbrev pub IsValueStatus : Type 0 → Type 0 → ExitStatus → Type 0
IsValueStatus Some None statuses.Done = Some
IsValueStatus Some None status = IsFaultyStatus None status

-- The status of a call that writes a text. Either there is one, and the buffer is large enough or
-- too small, or there is none, and `Lacks` says why.
abbrev pub IsTextStatus : (List ℕ → Type 0) → (ExitStatus → Type 0) → List ℕ → ExitStatus → Type 0
IsTextStatus Says Lacks room statuses.Done = Fits Says room
IsTextStatus Says Lacks room statuses.Device = Exceeds Says room
IsTextStatus Says Lacks room status = Lacks status
