-- Runs of the program.
use Rattle.std.specs.Prelude.{ℕ, ◌⊎◌, List, [], ◌∷◌, codes}
use Rattle.cert_desk_listing.specs.DeskIo.declared.exit_status.ExitStatus.{ExitStatus}
use Rattle.cert_desk_listing.specs.DeskIo.declared.exit_status.ExitStatus.TheVariants as statuses
use Rattle.cert_desk_listing.specs.DeskIo.declared.named_inputs.OpenError.{OpenError}
use Rattle.cert_desk_listing.specs.DeskIo.Devices.{Device, Untouched}
use Rattle.cert_desk_listing.specs.DeskIo.NamedInputs.{AreUnopened, Inputs, IsUnopenedTold}
use Rattle.cert_desk_listing.specs.DeskIo.NamedInputs.{OfOpened}
use Rattle.cert_desk_listing.specs.DeskIo.Telling.{IsComplaint}
use Rattle.cert_desk_checking.specs.declared.outcome.Outcome.{Outcome}
use Rattle.cert_desk_checking.specs.Anchors.{purpose_plain}
use Rattle.cert_desk_checking.specs.Runs.{IsOutcome, IsTold, IsUnasked, Judge}
use Rattle.cert_desk.specs.Runs as issued
use Rattle.cert_desk_listing.specs.declared.file_kind.FileKind.{FileKind}
use Rattle.cert_desk_listing.specs.Shown as shown
use Rattle.cert_desk.specs.declared.command.Arguments.{Arguments}
use Rattle.cert_desk.specs.declared.command.Command.{Command}
use Rattle.cert_desk.specs.declared.command.Command.TheVariants as commands
use Rattle.cert_desk.specs.Commands.{AsksFor, AskNoChain, AskNoCheck, AskNoListing}

-- One of the inputs with these names, which are opened in this order, can't be opened, and this is
-- reported.
abbrev pub IsUnopened : Inputs → List (List ℕ) → Device → Device → ExitStatus → Type 0
IsUnopened i names out err answer =
    Untouched out × (error : OpenError) × AreUnopened i names error
    × IsUnopenedTold err error answer

-- `check`: the report is on the trust anchors and the chain with these names.
abbrev pub IsChecked : Inputs → Judge → Device → Device → Arguments → ExitStatus → Type 0
IsChecked i judge out err a answer =
    OfOpened i a.anchors.now (λ anchors. OfOpened i a.stream.now (λ stream.
    (outcome : Outcome)
    × IsOutcome anchors stream judge a.moment (purpose_plain a.purpose) a.limit outcome
    × IsTold out err outcome answer))
    ⊎ (IsUnasked judge × IsUnopened i (a.anchors.now ∷ a.stream.now ∷ []) out err answer)

-- `show`: the report is on the file with this name.
abbrev pub IsShown : Inputs → Device → Device → FileKind → List ℕ → ExitStatus → Type 0
IsShown i out err kind file answer =
    OfOpened i file (λ input. (finding : _) × shown.IsFinding input kind finding
    × shown.IsTold out err finding answer)
    ⊎ IsUnopened i (file ∷ []) out err answer

-- `issue`: the report is on the orders file with this name.
abbrev pub IsIssued : Inputs → Device → Device → List ℕ → ExitStatus → Type 0
IsIssued i out err orders answer =
    OfOpened i orders (λ input. (outcome : _) × issued.FileBecomes input outcome
    × issued.IsTold out err outcome answer)
    ⊎ IsUnopened i (orders ∷ []) out err answer

-- The command is run. Only `check` asks the verifier.
abbrev pub IsRun : Inputs → Judge → Device → Device → Command → ExitStatus → Type 0
IsRun i judge out err (commands.Check a) answer = IsChecked i judge out err a answer
IsRun i judge out err (commands.Show kind file) answer =
    IsUnasked judge × IsShown i out err kind file.now answer
IsRun i judge out err (commands.Issue orders) answer =
    IsUnasked judge × IsIssued i out err orders.now answer

-- The usage line of the program.
abbrev pub usage_line : List ℕ
usage_line = codes
    "usage: cert_desk check ANCHORS STREAM MOMENT PURPOSE LIMIT | show KIND FILE | issue ORDERS\n"

-- The words ask for a command, and it is run, or they ask for none, and the usage line is reported.
abbrev pub IsObeyed : Inputs → Judge → Device → Device → List (List ℕ) → ExitStatus → Type 0
IsObeyed i judge out err words answer =
    ((command : Command) × AsksFor words command × IsRun i judge out err command answer)
    ⊎ (AskNoCheck words × AskNoListing words × AskNoChain words × IsUnasked judge × Untouched out
    × IsComplaint err usage_line statuses.Arguments answer)
