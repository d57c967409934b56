-- The number of each exit status, which is the exit code of the process.
use Rattle.std.specs.Prelude.{ℕ}
use Rattle.cert_desk_io.specs.declared.exit_status.ExitStatus.{ExitStatus}
use Rattle.cert_desk_io.specs.declared.exit_status.ExitStatus.TheVariants as statuses

-- The number of each status.
abbrev pub code_of : ExitStatus → ℕ
code_of statuses.Done = 0
code_of statuses.Refused = 1
code_of statuses.Faulty = 2
code_of statuses.Empty = 3
code_of statuses.Arguments = 4
code_of statuses.Device = 5
code_of statuses.Memory = 6
