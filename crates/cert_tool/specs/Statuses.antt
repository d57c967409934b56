-- The exit statuses of the program.
use Rattle.std.specs.Prelude.{◌≡◌, ℕ}
use Rattle.cert_tool_explain.specs.DeskIo.declared.exit_status.ExitStatus.{ExitStatus}
use Rattle.cert_tool_explain.specs.DeskIo.declared.exit_status.ExitStatus.TheVariants as statuses
use Rattle.cert_tool_explain.specs.DeskIo.Statuses.{code_of}
use Rattle.cert_tool.specs.declared.status.Status.{Status}
use Rattle.cert_tool.specs.declared.status.Status.TheVariants as forms

-- The number of an exit status.
abbrev pub status_code : Status → ℕ
status_code (forms.Exit status) = code_of status
status_code forms.EndsSoon = 7

-- The status is one that both programs use, and this holds for it.
abbrev pub Exits : (ExitStatus → Type 0) → Status → Type 0
Exits Holds (forms.Exit status) = Holds status
Exits Holds forms.EndsSoon = ⊥

-- The status after writing that a chain ends soon: `EndsSoon` if the text was written, else the
-- error's status.
abbrev pub warned : ExitStatus → Status
warned statuses.Done = forms.EndsSoon
warned statuses.Refused = forms.Exit statuses.Refused
warned statuses.Faulty = forms.Exit statuses.Faulty
warned statuses.Empty = forms.Exit statuses.Empty
warned statuses.Arguments = forms.Exit statuses.Arguments
warned statuses.Device = forms.Exit statuses.Device
warned statuses.Memory = forms.Exit statuses.Memory
