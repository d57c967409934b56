-- The texts that a run prints. Each is one line and ends with LF.
use Rattle.std.specs.Prelude.{ℕ, List, ◌++◌, codes, decimal}
use Rattle.cert_desk_rules.specs.declared.checked.Verdict.{Verdict}
use Rattle.cert_desk_rules.specs.declared.checked.Verdict.TheVariants as verdicts
use Rattle.cert_desk_rules.specs.DeskBundle.FaultNames.{kind_name}
use Rattle.cert_desk_checking.specs.declared.anchor_fault.AnchorFault.{AnchorFault}
use Rattle.cert_desk_checking.specs.declared.anchor_fault.AnchorFault.TheVariants as faults
use Rattle.cert_desk_rules.specs.Judging.{rule_name}

-- The line for a verdict and the number of questions to the verifier.
abbrev pub line_of : Verdict → ℕ → List ℕ
line_of verdicts.Trusted calls = codes "trusted calls=" ++ decimal calls ++ codes "\n"
line_of (verdicts.Refused place rule) calls = codes "refused " ++ decimal place ++ codes " "
    ++ rule_name rule ++ codes " calls=" ++ decimal calls ++ codes "\n"
line_of (verdicts.StreamFault place offset kind) calls = codes "fault " ++ decimal place
    ++ codes " " ++ decimal offset ++ codes " " ++ kind_name kind ++ codes "\n"
line_of verdicts.Empty calls = codes "empty\n"

-- The words for each error of a trust anchor.
abbrev pub fault_name : AnchorFault → List ℕ
fault_name faults.Malformed = codes "malformed"
fault_name faults.NoName = codes "no name"
fault_name faults.PathControls = codes "path controls"

-- The line for an error of the trust anchor at an offset.
abbrev pub anchors_line : ℕ → AnchorFault → List ℕ
anchors_line offset fault = codes "anchors: " ++ fault_name fault ++ codes " at " ++ decimal offset
    ++ codes "\n"
