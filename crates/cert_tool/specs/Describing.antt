-- The output and the exit status of `describe KIND`.
use Rattle.std.specs.Prelude.{ℕ, ◌⊎◌, List}
use Rattle.cert_tool_explain.specs.DeskIo.declared.exit_status.ExitStatus.{ExitStatus}
use Rattle.cert_tool_explain.specs.DeskIo.declared.exit_status.ExitStatus.TheVariants as statuses
use Rattle.cert_tool_explain.specs.DeskIo.Devices.{Device, Untouched}
use Rattle.cert_tool_explain.specs.DeskIo.Telling.{IsAnswer, IsComplaint, IsMemoryTold}

-- Some text on the error output says why the bytes can't be decoded, and the status is that of
-- malformed input.
abbrev pub IsErrorExplained : Device → ExitStatus → Type 0
IsErrorExplained err answer = (text : List ℕ) × IsComplaint err text statuses.Faulty answer

-- If the file is valid, that is, the encoding of a value of its kind, some text is written to the
-- output; else it is reported why it isn't. Or memory runs out, which is reported.
abbrev pub IsDescribed : Type 0 → Device → Device → ExitStatus → Type 0
IsDescribed Valid out err answer =
    (Valid × ((text : List ℕ) × IsAnswer out err text statuses.Done answer))
    ⊎ (Untouched out × (((Valid → ⊥) × IsErrorExplained err answer) ⊎ IsMemoryTold err answer))
