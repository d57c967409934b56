-- The numbers of the reasons why orders are rejected, and of the rules that their chain breaks.
use Rattle.std.specs.Prelude.{◌≡◌, ℕ}
use Rattle.cert_desk_checking.specs.DeskIo.declared.exit_status.ExitStatus.{ExitStatus}
use Rattle.cert_desk_checking.specs.DeskIo.declared.exit_status.ExitStatus.TheVariants as statuses
use Rattle.cert_desk_checking.specs.DeskRules.declared.checked.Verdict.{Verdict}
use Rattle.cert_desk_checking.specs.DeskRules.declared.checked.Verdict.TheVariants as verdicts
use Rattle.cert_desk_checking.specs.DeskRules.Judging.{number}
use Rattle.cert_desk.specs.declared.issue_error.IssueError.{IssueError}
use Rattle.cert_desk.specs.declared.issue_error.IssueError.TheVariants as errors

-- The status for each error.
abbrev pub status_of : IssueError → ExitStatus
status_of errors.OutOfMemory = statuses.Memory
status_of _ = statuses.Refused

-- The index of the rejected order.
abbrev pub place_of : IssueError → ℕ
place_of (errors.Name place) = place
place_of (errors.RootName place error) = place
place_of (errors.SubscriberName place) = place
place_of (errors.Serial place) = place
place_of (errors.Dates place) = place
place_of (errors.DnsName place) = place
place_of (errors.TooLong place) = place
place_of _ = 0

-- The number of a reason, which differs from that of every rule. The other reasons can't occur,
-- because the signers have the keys of the orders, are as many as needed, and never refuse.
abbrev pub reason_number : IssueError → ℕ
reason_number errors.NoOrders = 21
reason_number (errors.Name place) = 22
reason_number (errors.RootName place error) = 23
reason_number (errors.SubscriberName place) = 24
reason_number (errors.Serial place) = 25
reason_number (errors.Dates place) = 26
reason_number (errors.DnsName place) = 27
reason_number (errors.TooLong place) = 28
reason_number _ = 0

-- The report of the verdict on a chain that has no error and isn't empty, and the status.
abbrev pub TellsVerdict : Verdict → ℕ → ℕ → ExitStatus → Type 0
TellsVerdict (verdicts.Refused at rule) place told status =
    (place ≡ at) × (told ≡ number rule) × (status ≡ statuses.Refused)
TellsVerdict _ place told status = status ≡ statuses.Done
