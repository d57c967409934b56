-- Inputs and outputs in memory, as contracts see them.
use Rattle.std.specs.Prelude.{◌≡◌, ℕ, List, [], ◌++◌, length, take, Option, IsTrue}
use Rattle.cert_desk_io.specs.declared.memory_inputs.MemoryInput.{MemoryInput}
use Rattle.cert_desk_io.specs.declared.memory_outputs.MemoryOutput.{MemoryOutput}

-- The bytes that are left to read.
abbrev pub octets_left : MemoryInput → List ℕ
octets_left input = input.octets.now

-- The sizes of the next pieces that are read.
abbrev pub read_sizes : MemoryInput → List ℕ
read_sizes input = input.schedule.pieces.now

-- The number of the read that fails, with 1 for the next read.
abbrev pub failing_read : MemoryInput → Option ℕ
failing_read input = input.schedule.failing_call

-- The number of failed reads.
abbrev pub read_failures : MemoryInput → ℕ
read_failures input = input.failures

-- The last read met the end, and no byte is left.
abbrev pub HasEnded : MemoryInput → Type 0
HasEnded input = IsTrue input.has_ended × (octets_left input ≡ [])

-- The accepted bytes.
abbrev pub written : MemoryOutput → List ℕ
written output = take output.len output.room.now

-- The number of bytes that the output can store, including those already accepted.
abbrev pub capacity : MemoryOutput → ℕ
capacity output = length output.room.now

-- Both write into the same borrowed memory.
abbrev pub InSameRoom : MemoryOutput → MemoryOutput → Type 0
InSameRoom a b = b.room.ghost_name ≡ a.room.ghost_name

-- Between these two states, the output accepted these bytes and kept its memory.
abbrev pub Gives : MemoryOutput → List ℕ → MemoryOutput → Type 0
Gives a octets b = (written b ≡ written a ++ octets) × InSameRoom a b

-- The output has no capacity left.
abbrev pub IsFull : MemoryOutput → Type 0
IsFull output = length (written output) ≡ capacity output

-- The sizes of the next pieces that are written.
abbrev pub write_sizes : MemoryOutput → List ℕ
write_sizes output = output.schedule.pieces.now

-- The number of the write that fails, with 1 for the next write.
abbrev pub failing_write : MemoryOutput → Option ℕ
failing_write output = output.schedule.failing_call

-- The number of failed writes.
abbrev pub write_failures : MemoryOutput → ℕ
write_failures output = output.failures
