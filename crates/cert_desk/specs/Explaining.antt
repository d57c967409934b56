-- The line that follows the line of a run of `issue` and says why.
use Rattle.std.specs.Prelude.{◌⊎◌, List, ℕ, None, Some, codes}
use Rattle.cert_desk_listing.specs.DeskIo.Devices.{Device, IsCut, IsWritten, Untouched}
use Rattle.cert_desk_listing.specs.DeskIo.NamedInputs.{Inputs, OfOpened}
use Rattle.cert_desk_listing.specs.DeskIo.Telling.{memory_line}
use Rattle.cert_desk_listing.specs.DeskIo.Whole.{IsUnread, IsWhole, most_octets}
use Rattle.cert_desk_listing.specs.DeskIo.declared.exit_status.ExitStatus.{ExitStatus}
use Rattle.cert_desk_listing.specs.DeskIo.declared.exit_status.ExitStatus.TheVariants as statuses
use Rattle.cert_desk_listing.specs.DeskIo.declared.named_inputs.OpenError.TheVariants as openings
use Rattle.cert_desk_listing.specs.DeskIo.declared.read_all_error.ReadAllError.{ReadAllError}
use Rattle.cert_desk.specs.Commands.{AskIssue, AskNoChain}
use Rattle.cert_desk.specs.Reasons.{SaysReason}
use Rattle.cert_desk.specs.Runs.{FileBecomes, IsTold}
use Rattle.cert_desk.specs.declared.outcome.Outcome.{Outcome}

-- A text was written, or a write failed after a proper prefix of it.
abbrev pub IsTried : Device → List ℕ → Type 0
IsTried err text = IsWritten err text ⊎ IsCut err text

-- The reason for the outcome for these bytes is added, if there is more to say, or the line that
-- reports that memory ran out.
abbrev pub IsExplained : Device → List ℕ → Outcome → Type 0
IsExplained err octets outcome =
    (SaysReason octets outcome None × Untouched err)
    ⊎ ((text : List ℕ) × SaysReason octets outcome (Some text) × IsTried err text)
    ⊎ IsTried err memory_line

-- The reason is added if the run ends with the status of a wrong file or of a rejected order.
abbrev pub IsExplainedAfter : ExitStatus → Device → List ℕ → Outcome → Type 0
IsExplainedAfter statuses.Refused err octets outcome = IsExplained err octets outcome
IsExplainedAfter statuses.Arguments err octets outcome = IsExplained err octets outcome
IsExplainedAfter _ err octets outcome = Untouched err

-- The reason for the outcome for an orders file is added, if the file was read to its end.
abbrev pub IsFileExplained : Device → Device → Outcome → ExitStatus → Type 0
IsFileExplained input err outcome answer =
    ((octets : List ℕ) × IsWhole input most_octets octets
    × IsExplainedAfter answer err octets outcome)
    ⊎ ((error : ReadAllError) × IsUnread input most_octets error × Untouched err)

-- The reason for an orders file that can't be opened.
abbrev pub unopened_reason : List ℕ
unopened_reason = codes "orders: the file can't be opened\n"

-- The orders file with this name gives the outcome that was reported, and the reason for it is
-- added. If the file can't be opened, that is added, unless memory ran out.
abbrev pub IsNameExplained : Inputs → Device → Device → Device → List ℕ → ExitStatus → Type 0
IsNameExplained i out told err orders answer =
    OfOpened i orders (λ input. (outcome : Outcome) × FileBecomes input outcome
    × IsTold out told outcome answer × IsFileExplained input err outcome answer)
    ⊎ (i.is_unopened orders openings.Device × IsTried err unopened_reason)
    ⊎ (i.is_unopened orders openings.OutOfMemory × Untouched err)

-- The words ask for the chain of an orders file, and the reason for its outcome is added, or they
-- don't, and nothing is added.
abbrev pub IsCommandExplained : Inputs → Device → Device → Device → List (List ℕ) → ExitStatus
    → Type 0
IsCommandExplained i out told err words answer =
    ((orders : List ℕ) × AskIssue words orders × IsNameExplained i out told err orders answer)
    ⊎ (AskNoChain words × Untouched err)
