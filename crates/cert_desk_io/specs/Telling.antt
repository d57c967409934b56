-- The messages that every run writes, and the exit status that follows.
use Rattle.std.specs.Prelude.{◌≡◌, ℕ, ◌⊎◌, List, codes}
use Rattle.cert_desk_io.specs.declared.exit_status.ExitStatus.{ExitStatus}
use Rattle.cert_desk_io.specs.declared.exit_status.ExitStatus.TheVariants as statuses
use Rattle.cert_desk_io.specs.Devices.{Device, Untouched, IsWritten, IsCut}

-- The line that reports an I/O error.
abbrev pub device_line : List ℕ
device_line = codes "device\n"

-- The line that reports that memory ran out.
abbrev pub memory_line : List ℕ
memory_line = codes "memory\n"

-- The report of an I/O error: the line `device` was tried once, and the status is `Device`.
abbrev pub IsDeviceTold : Device → ExitStatus → Type 0
IsDeviceTold err answer = (IsWritten err device_line ⊎ IsCut err device_line)
    × (answer ≡ statuses.Device)

-- A message to the error output. Either it was written and the status is this one, or a write
-- failed and the I/O error was reported.
abbrev pub IsComplaint : Device → List ℕ → ExitStatus → ExitStatus → Type 0
IsComplaint err text status answer =
    (IsWritten err text × (answer ≡ status))
    ⊎ ((between : err.State) × IsCut (record err { new = between }) text
    × IsDeviceTold (record err { old = between }) answer)

-- A text to the output. Either it was written and the status is this one, or a write failed and the
-- I/O error was reported on the error output.
abbrev pub IsAnswer : Device → Device → List ℕ → ExitStatus → ExitStatus → Type 0
IsAnswer out err text status answer =
    (IsWritten out text × Untouched err × (answer ≡ status))
    ⊎ (IsCut out text × IsDeviceTold err answer)

-- The report that memory ran out.
abbrev pub IsMemoryTold : Device → ExitStatus → Type 0
IsMemoryTold err answer = IsComplaint err memory_line statuses.Memory answer
