-- The answers that `verify` reads, and its reports.
use Rattle.std.specs.Prelude.{◌≡◌, ℕ, ◌⊎◌, List, [], ◌++◌, codes, decimal, Result, Ok, Err, Bool}
use Rattle.std.specs.Prelude.{true, false}
use Rattle.cert_tool_explain.specs.DeskIo.declared.exit_status.ExitStatus.{ExitStatus}
use Rattle.cert_tool_explain.specs.DeskIo.declared.exit_status.ExitStatus.TheVariants as statuses
use Rattle.cert_tool_explain.specs.DeskIo.declared.read_all_error.ReadAllError.TheVariants as errors
use Rattle.cert_tool_explain.specs.DeskIo.Devices.{Device, Untouched}
use Rattle.cert_tool_explain.specs.DeskIo.Telling.{IsAnswer, IsComplaint, IsDeviceTold}
use Rattle.cert_tool_explain.specs.DeskIo.Telling.{IsMemoryTold}
use Rattle.cert_tool_explain.specs.DeskIo.Whole.{IsUnread, IsWhole, most_octets}
use Rattle.cert_tool_explain.specs.DeskRules.declared.checked.Checked.{Checked}
use Rattle.cert_tool_explain.specs.DeskRules.declared.checked.Verdict.{Verdict}
use Rattle.cert_tool_explain.specs.DeskRules.declared.checked.Verdict.TheVariants as verdicts
use Rattle.cert_tool_explain.specs.CertCertificates.Certificates.{PlainCertificate}
use Rattle.cert_tool_explain.specs.DeskBundle.FaultNames.{kind_name}
use Rattle.cert_tool_explain.specs.DeskRules.Judging.{rule_name}
use Rattle.cert_tool_explain.specs.DeskChecking.Lines.{line_of}
use Rattle.cert_tool_explain.specs.DeskRules.Questions.{Question}
use Rattle.cert_tool_explain.specs.DeskChecking.Runs.{status_of}
use Rattle.cert_desk_answers.specs.declared.line_fault.LineFault.{LineFault}
use Rattle.cert_desk_answers.specs.declared.no_answers.NoAnswers.{NoAnswers}
use Rattle.cert_desk_answers.specs.declared.no_answers.NoAnswers.TheVariants as reasons
use Rattle.cert_desk_answers.specs.AnswerLines.{file_says}
use Rattle.cert_desk_answers.specs.FaultTexts.{line_fault_text}
use Rattle.cert_tool_limits.specs.Unjudged.{IsUnjudgedText}
use Rattle.cert_tool.specs.EndEntities.{trusted_text, end_entity_text}

-- The input contains these answers, or this is the reason why it doesn't.
abbrev pub AreAnswers : Device → Result (List Question) NoAnswers → Type 0
AreAnswers d (Ok qs) = (octets : List ℕ) × IsWhole d most_octets octets × (file_says octets ≡ Ok qs)
AreAnswers d (Err (reasons.Line number fault)) =
    (octets : List ℕ) × IsWhole d most_octets octets × (file_says octets ≡ Err (number, fault))
AreAnswers d (Err reasons.TooMuch) = IsUnread d most_octets errors.TooMuch
AreAnswers d (Err reasons.Device) = IsUnread d most_octets errors.Device
AreAnswers d (Err reasons.OutOfMemory) = ((octets : List ℕ) × IsWhole d most_octets octets)
    ⊎ IsUnread d most_octets errors.OutOfMemory

-- The message for an error in the line of this number.
abbrev pub wrong_line : ℕ → LineFault → List ℕ
wrong_line number fault =
    codes "answers: line " ++ decimal number ++ codes ": " ++ line_fault_text fault ++ codes "\n"

-- The message for answers of 2^32 bytes or more.
abbrev pub too_much_line : List ℕ
too_much_line = codes "answers: 2^32 octets or more\n"

-- The error output says why there are no answers, and the status is that of the reason.
abbrev pub IsMissingAnswersReported : Device → NoAnswers → ExitStatus → Type 0
IsMissingAnswersReported err (reasons.Line number fault) answer =
    IsComplaint err (wrong_line number fault) statuses.Arguments answer ⊎ IsMemoryTold err answer
IsMissingAnswersReported err reasons.TooMuch answer =
    IsComplaint err too_much_line statuses.Arguments answer
IsMissingAnswersReported err reasons.Device answer = IsDeviceTold err answer
IsMissingAnswersReported err reasons.OutOfMemory answer = IsMemoryTold err answer

-- The member `unjudged` of a JSON object: what no rule checks in a chain and in the trust anchors
-- that these bytes encode, nor `--strict` for this key purpose, if it is given. A line has no such
-- member.
abbrev pub IsUnjudgedIf : Bool → Bool → List ℕ → List ℕ → List PlainCertificate → List ℕ → Type 0
IsUnjudgedIf true strict purpose octets cs unjudged =
    IsUnjudgedText strict purpose octets cs unjudged
IsUnjudgedIf false strict purpose octets cs unjudged = unjudged ≡ []

-- The JSON object (RFC 8259) of a chain that is rejected for this reason.
abbrev pub refused_json : ℕ → List ℕ → ℕ → List ℕ → List ℕ
refused_json place reason calls unjudged =
    codes "{\"verdict\":\"refused\",\"place\":" ++ decimal place ++ codes ",\"rule\":\""
    ++ reason ++ codes "\",\"calls\":" ++ decimal calls ++ unjudged ++ codes "}\n"

-- The JSON object of a verdict; `calls` is the number of times that the verifier was asked.
abbrev pub verdict_json : List ℕ → List PlainCertificate → Verdict → ℕ → List ℕ
verdict_json unjudged cs verdicts.Trusted calls =
    trusted_text true (end_entity_text true cs ++ unjudged) calls
verdict_json unjudged cs (verdicts.Refused place rule) calls =
    refused_json place (rule_name rule) calls unjudged
verdict_json unjudged cs (verdicts.StreamFault place offset kind) calls =
    codes "{\"verdict\":\"fault\",\"place\":" ++ decimal place ++ codes ",\"offset\":"
    ++ decimal offset ++ codes ",\"kind\":\"" ++ kind_name kind ++ codes "\"}\n"
verdict_json unjudged cs verdicts.Empty calls = codes "{\"verdict\":\"empty\"}\n"

-- The line of a verdict.
abbrev pub verdict_line : List PlainCertificate → Verdict → ℕ → List ℕ
verdict_line cs verdicts.Trusted calls = trusted_text false (end_entity_text false cs) calls
verdict_line cs verdict calls = line_of verdict calls

-- The report on a verdict, as JSON or as a line.
abbrev pub verdict_text : Bool → List ℕ → List PlainCertificate → Verdict → ℕ → List ℕ
verdict_text true unjudged cs verdict calls = verdict_json unjudged cs verdict calls
verdict_text false unjudged cs verdict calls = verdict_line cs verdict calls

-- The report on the verdict is written to the output, and the status is that of the verdict. If
-- memory runs out for the report, that is reported on the error output instead.
abbrev pub IsVerdictReported : Bool → List ℕ → List PlainCertificate → Device → Device → Checked
    → ExitStatus → Type 0
IsVerdictReported json unjudged cs out err checked answer =
    IsAnswer out err (verdict_text json unjudged cs checked.verdict checked.calls)
    (status_of checked.verdict) answer
    ⊎ (Untouched out × IsMemoryTold err answer)
