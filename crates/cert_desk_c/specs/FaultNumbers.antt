-- The numbers of the kinds of errors.
use Rattle.std.specs.Prelude.{◌≡◌, ◌≢◌, ℕ, ◌⊎◌}
use Rattle.cert_tool_describe.specs.Der.ErrorTypes.ErrorKind.{ErrorKind}
use Rattle.cert_tool_describe.specs.Der.ErrorTypes.ErrorKind.TheVariants as kinds
use Rattle.cert_desk_listing.specs.DeskIo.declared.exit_status.ExitStatus.TheVariants as statuses
use Rattle.cert_desk_listing.specs.DeskIo.Statuses.{code_of}
use Rattle.cert_desk_c.specs.declared.faults.WdFault.{WdFault}

-- The number of each kind.
abbrev pub fault_number : ErrorKind → ℕ
fault_number kinds.DateTime = 1
fault_number kinds.EncodingRules = 2
fault_number kinds.Failed = 3
fault_number kinds.Incomplete = 4
fault_number kinds.IndefiniteLength = 5
fault_number (kinds.Length tag) = 6
fault_number kinds.NestingDepth = 7
fault_number (kinds.Noncanonical tag) = 8
fault_number kinds.OidMalformed = 9
fault_number kinds.OidUnknown = 10
fault_number kinds.OutOfMemory = 11
fault_number kinds.Overflow = 12
fault_number kinds.Overlength = 13
fault_number kinds.Reader = 14
fault_number kinds.SetDuplicate = 15
fault_number kinds.SetOrdering = 16
fault_number kinds.TagModeUnknown = 17
fault_number kinds.TagNumberInvalid = 18
fault_number kinds.TagUnexpected = 19
fault_number kinds.TagUnknown = 20
fault_number kinds.TrailingData = 21
fault_number kinds.Utf8 = 22
fault_number (kinds.Value tag) = 23

-- An error of this kind is reported by its number and a status. If memory ran out, only the status
-- reports it.
abbrev pub IsTold : ErrorKind → WdFault → WdFault → ℕ → Type 0
IsTold kind old new status =
    ((kind ≡ kinds.OutOfMemory) × (status ≡ code_of statuses.Memory) × (new ≡ old))
    ⊎ ((kind ≢ kinds.OutOfMemory) × (status ≡ code_of statuses.Faulty)
    × (new.kind ≡ fault_number kind))
