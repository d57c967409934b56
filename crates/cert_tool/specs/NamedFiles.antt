-- The files that a command names, and the DER that they contain, directly or as PEM.
use Rattle.std.specs.Prelude.{◌≡◌, ℕ, ◌⊎◌, List, [], ◌∷◌}
use Rattle.cert_tool_explain.specs.DeskIo.declared.exit_status.ExitStatus.{ExitStatus}
use Rattle.cert_tool_explain.specs.DeskIo.declared.exit_status.ExitStatus.TheVariants as statuses
use Rattle.cert_tool_explain.specs.DeskIo.declared.named_inputs.OpenError.{OpenError}
use Rattle.cert_tool_explain.specs.DeskIo.Devices.{Device}
use Rattle.cert_tool_explain.specs.DeskIo.NamedInputs.{Inputs, OfOpened, unopened_status}
use Rattle.cert_tool_pem.specs.declared.file_error.FileError.{FileError}
use Rattle.cert_tool_pem.specs.declared.file_error.FileError.TheVariants as errors
use Rattle.cert_tool_pem.specs.declared.file_input.FileInput.{FileInput}
use Rattle.cert_tool_pem.specs.declared.wanted.Wanted.{Wanted}
use Rattle.cert_tool_pem.specs.declared.wanted.Wanted.TheVariants as kinds
use Rattle.cert_tool_pem.specs.DecodedFiles.{IsFileError, meant}

-- A file: what it must contain, and its name.
abbrev pub Named : Type 0
Named = Wanted × List ℕ

-- This input is the DER that the file contains.
abbrev pub IsOpenedAs : (i : Inputs) → Named → FileInput i.State → Type 0
IsOpenedAs i file input = (meant file.0 i).is_opened file.1 input

-- The file is opened, and this holds for the input of its DER.
abbrev pub OnNamedFile : Inputs → Named → (Device → Type 0) → Type 0
OnNamedFile i file Holds = OfOpened (meant file.0 i) file.1 Holds

-- The exit status for a file that doesn't contain what the command needs.
abbrev pub wrong_content_status : Wanted → ExitStatus
wrong_content_status kinds.Anchors = statuses.Arguments
wrong_content_status _ = statuses.Faulty

-- The exit status for an error of decoding a file.
abbrev pub file_error_status : Wanted → FileError → ExitStatus
file_error_status wanted errors.Device = statuses.Device
file_error_status wanted errors.OutOfMemory = statuses.Memory
file_error_status wanted errors.NotText = statuses.Arguments
file_error_status wanted _ = wrong_content_status wanted

-- The file can't be opened, or it doesn't contain what the command needs; and the status is that of
-- the error.
abbrev pub IsUnusable : Inputs → Named → ExitStatus → Type 0
IsUnusable i file status =
    ((error : OpenError) × i.is_unopened file.1 error × (status ≡ unopened_status error))
    ⊎ ((error : FileError) × OfOpened i file.1 (λ d. IsFileError file.0 d error)
    × (status ≡ file_error_status file.0 error))

-- Files are opened in turn. The first one that can't be used has this status.
abbrev pub IsOneUnusable : Inputs → List Named → ExitStatus → Type 0
IsOneUnusable i [] status = ⊥
IsOneUnusable i (file ∷ files) status =
    IsUnusable i file status
    ⊎ ((input : FileInput i.State) × IsOpenedAs i file input × IsOneUnusable i files status)
