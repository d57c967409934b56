-- Inputs and outputs, both called devices, as contracts see them: the bytes that they move between
-- two states, their count of failures, and the part of a text that was written.
use Rattle.std.specs.Prelude.{◌≡◌, ℕ, ◌+◌, ◌-◌, ◌^◌, ◌<◌, min, List, [], length, take}

-- The count of failures after one more failure. It stays at 2^64 - 1, the largest number of 64
-- bits.
abbrev pub one_more : ℕ → ℕ
one_more failures = min (failures + 1) (2 ^ 64 - 1)

-- An input or an output over a call: the bytes that it moves between two states, the states in
-- which the last read met the end, the number of failed calls, and the states before and after the
-- call.
pub record Device : Type 1 where
  pub State : Type 0
  pub moves : State → List ℕ → State → Type 0
  pub is_ended : State → Type 0
  pub failures : State → ℕ
  pub old : State
  pub new : State

-- An input as a `Device`.
abbrev pub source : {State : Type 0} → (State → List ℕ → State → Type 0) → (State → Type 0)
    → (State → ℕ) → State → State → Device
source {State} takes is_ended failures old new =
    record {
      State = State;
      moves = takes;
      is_ended = is_ended;
      failures = failures;
      old = old;
      new = new;
    }

-- An output as a `Device`. It has no end.
abbrev pub sink : {State : Type 0} → (State → List ℕ → State → Type 0) → (State → ℕ) → State → State
    → Device
sink {State} gives failures old new =
    record {
      State = State;
      moves = gives;
      is_ended = λ _. ⊥;
      failures = failures;
      old = old;
      new = new;
    }

-- The call moved exactly these bytes, in this order.
abbrev pub Moved : Device → List ℕ → Type 0
Moved d octets = d.moves d.old octets d.new

-- The last read met the end.
abbrev pub MetEnd : Device → Type 0
MetEnd d = d.is_ended d.new

-- No call failed.
abbrev pub Sound : Device → Type 0
Sound d = d.failures d.new ≡ d.failures d.old

-- The device was not used.
abbrev pub Untouched : Device → Type 0
Untouched d = d.new ≡ d.old

-- Exactly the last call failed. The calls before it moved these bytes; it moved none and didn't
-- meet the end.
pub record Fails (d : Device) (octets : List ℕ) : Type 0 where
  pub before : d.State
  pub moved : d.moves d.old octets before
  pub sound : d.failures before ≡ d.failures d.old
  pub stopped : d.moves before [] d.new
  pub not_ended : d.is_ended d.new → ⊥
  pub once : d.failures d.new ≡ one_more (d.failures before)

-- The text was written, and no write failed.
abbrev pub IsWritten : Device → List ℕ → Type 0
IsWritten d text = Moved d text × Sound d

-- A write failed, after a proper prefix of the text was written.
abbrev pub IsCut : Device → List ℕ → Type 0
IsCut d text = (sent : ℕ) × (sent < length text) × Fails d (take sent text)
