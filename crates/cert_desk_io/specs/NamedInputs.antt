-- Inputs that are opened by their names, as contracts see them, and the report on one that can't be
-- opened.
use Rattle.std.specs.Prelude.{ℕ, ◌⊎◌, List, [], ◌∷◌}
use Rattle.cert_desk_io.specs.declared.exit_status.ExitStatus.{ExitStatus}
use Rattle.cert_desk_io.specs.declared.exit_status.ExitStatus.TheVariants as statuses
use Rattle.cert_desk_io.specs.declared.named_inputs.OpenError.{OpenError}
use Rattle.cert_desk_io.specs.declared.named_inputs.OpenError.TheVariants as errors
use Rattle.cert_desk_io.specs.Devices.{Device, source}
use Rattle.cert_desk_io.specs.Telling.{IsDeviceTold, IsMemoryTold}

-- Inputs that are opened by their names: the members of `Device` for each of them, the inputs that
-- were opened by each name, and the reasons why none was opened by a name.
pub record Inputs : Type 1 where
  pub State : Type 0
  pub moves : State → List ℕ → State → Type 0
  pub is_ended : State → Type 0
  pub failures : State → ℕ
  pub is_opened : List ℕ → State → Type 0
  pub is_unopened : List ℕ → OpenError → Type 0

-- Named inputs, from their parts.
abbrev pub inputs : {State : Type 0} → (State → List ℕ → State → Type 0) → (State → Type 0)
    → (State → ℕ) → (List ℕ → State → Type 0) → (List ℕ → OpenError → Type 0) → Inputs
inputs {State} takes is_ended failures is_opened is_unopened =
    record {
      State = State;
      moves = takes;
      is_ended = is_ended;
      failures = failures;
      is_opened = is_opened;
      is_unopened = is_unopened;
    }

-- An input was opened by this name, and `Holds` is true of it as a `Device` from then on.
abbrev pub OfOpened : Inputs → List ℕ → (Device → Type 0) → Type 0
OfOpened i name Holds =
    (old : i.State) × (new : i.State) × i.is_opened name old
    × Holds (source i.moves i.is_ended i.failures old new)

-- The reason why one of the inputs with these names, which are opened in this order, can't be
-- opened. All before it were opened.
abbrev pub AreUnopened : Inputs → List (List ℕ) → OpenError → Type 0
AreUnopened i [] error = ⊥
AreUnopened i (name ∷ names) error =
    i.is_unopened name error
    ⊎ ((input : i.State) × i.is_opened name input × AreUnopened i names error)

-- The exit status of a run in which an input can't be opened.
abbrev pub unopened_status : OpenError → ExitStatus
unopened_status errors.Device = statuses.Device
unopened_status errors.OutOfMemory = statuses.Memory

-- The report on an input that can't be opened.
abbrev pub IsUnopenedTold : Device → OpenError → ExitStatus → Type 0
IsUnopenedTold err errors.Device answer = IsDeviceTold err answer
IsUnopenedTold err errors.OutOfMemory answer = IsMemoryTold err answer
