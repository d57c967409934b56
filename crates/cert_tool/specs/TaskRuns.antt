-- The effect of each command.
use Rattle.std.specs.Prelude.{◌≡◌, ℕ, ◌⊎◌, List, [], ◌∷◌, Option, Some, None, Result, Ok, Err}
use Rattle.std.specs.Prelude.{IsTrue, Bool, true, false, bytes_eq, codes, ◌||◌}
use Rattle.cert_tool_explain.specs.DeskIo.declared.exit_status.ExitStatus.{ExitStatus}
use Rattle.cert_tool_explain.specs.DeskIo.declared.exit_status.ExitStatus.TheVariants as statuses
use Rattle.cert_tool_explain.specs.DeskIo.Devices.{Device, Untouched}
use Rattle.cert_tool_explain.specs.DeskIo.NamedInputs.{Inputs}
use Rattle.cert_tool_explain.specs.DeskIo.Telling.{IsAnswer}
use Rattle.cert_tool_explain.specs.DeskIo.Whole.{IsWhole, most_octets}
use Rattle.cert_tool_explain.specs.DeskRules.declared.answers_judge.AnswersJudge.{AnswersJudge}
use Rattle.cert_tool_explain.specs.DeskRules.declared.checked.Checked.{Checked}
use Rattle.cert_tool_explain.specs.DeskChecking.declared.anchors_error.AnchorsError.{AnchorsError}
use Rattle.cert_tool_explain.specs.DeskChecking.declared.outcome.Outcome.{Outcome}
use Rattle.cert_tool_explain.specs.DeskChecking.declared.outcome.Outcome.TheVariants as outcomes
use Rattle.cert_tool_explain.specs.DeskChecking.Anchors.{purpose_plain}
use Rattle.cert_tool_explain.specs.DeskRules.Answers.{only_yes_to}
use Rattle.cert_tool_explain.specs.DeskRules.Judges.{judge_answers, judge_questions}
use Rattle.cert_tool_explain.specs.DeskRules.Questions.{Question}
use Rattle.cert_tool_explain.specs.DeskChecking.Reading.{IsFed}
use Rattle.cert_tool_explain.specs.DeskChecking.Runs.{IsOutcome, Judge, judging, outcome_of}
use Rattle.cert_tool_explain.specs.DeskBundle.Streams.{Kept}
use Rattle.cert_tool_pem.specs.declared.wanted.Wanted.{Wanted}
use Rattle.cert_tool_pem.specs.declared.wanted.Wanted.TheVariants as wanted
use Rattle.cert_tool.specs.declared.kinds.Kind.{Kind}
use Rattle.cert_tool.specs.declared.option_values.Terms.{Terms}
use Rattle.cert_tool.specs.declared.option_values.Moment.{Moment}
use Rattle.cert_tool.specs.declared.option_values.Moment.TheVariants as moments
use Rattle.cert_desk_answers.specs.declared.no_answers.NoAnswers.{NoAnswers}
use Rattle.cert_tool.specs.declared.status.Status.{Status}
use Rattle.cert_tool.specs.declared.status.Status.TheVariants as forms
use Rattle.cert_tool.specs.declared.tasks.Command.TheVariants as commands
use Rattle.cert_tool.specs.declared.tasks.Command.{Command}
use Rattle.cert_tool.specs.declared.tasks.Misuse.{Misuse}
use Rattle.cert_tool.specs.declared.tasks.Task.{Task}
use Rattle.cert_tool.specs.ParsedArguments.{any_before_end}
use Rattle.cert_tool.specs.QuestionRuns.{AreQuestionsFound, AreQuestionsReported}
use Rattle.cert_tool.specs.Explaining.{IsExplained, IsUnreadReported, IsTextWritten}
use Rattle.cert_tool.specs.Help.{program_text}
use Rattle.cert_tool.specs.Kinds.{IsOfKind, wanted_of_kind}
use Rattle.cert_tool.specs.NamedFiles.{IsOneUnusable, Named, OnNamedFile}
use Rattle.cert_tool.specs.OneValue.{IsReadIf}
use Rattle.cert_tool.specs.DemandReports.{IsChainReported}
use Rattle.cert_tool.specs.DescribedStreams.{IsDescribedStream}
use Rattle.cert_tool.specs.Describing.{IsDescribed}
use Rattle.cert_tool.specs.Splitting.{IsEarlyEndReported, IsListed, IsReversed, IsTaken}
use Rattle.cert_tool.specs.Statuses.{Exits}
use Rattle.cert_tool.specs.EarlyEnds.{FedWithin, IsReasonReported, IsOutcomeReported, IsWriteTried}
use Rattle.cert_tool.specs.Tasks.{AsksFor, IsMisuse}
use Rattle.cert_tool.specs.Verifying.{AreAnswers, IsMissingAnswersReported}

-- What reading the clock may return: seconds since 1970, or nothing.
abbrev pub Clock : Type 1
Clock = Option ℕ → Type 0

-- The validation time in seconds; for `now` it is what the clock returns.
abbrev pub IsValidationTime : Clock → Moment → ℕ → Type 0
IsValidationTime tells moments.Now seconds = tells (Some seconds)
IsValidationTime tells (moments.Seconds n) seconds = seconds ≡ n

-- The validation time is `now`, but the clock can't be read.
abbrev pub IsClockUnreadable : Clock → Moment → Type 0
IsClockUnreadable tells moments.Now = tells None
IsClockUnreadable tells (moments.Seconds n) = ⊥

-- This holds for the run of the device up to some state; other calls may follow.
abbrev pub OnFirstPart : Device → (Device → Type 0) → Type 0
OnFirstPart d Holds = (between : d.State) × Holds (record d { new = between })

-- This holds for the run of the device from some state on; other calls may come before.
abbrev pub OnLastPart : Device → (Device → Type 0) → Type 0
OnLastPart d Holds = (between : d.State) × Holds (record d { old = between })

-- Files are opened in turn, and one of them can't be used. The reason is reported, and it
-- determines the status.
abbrev pub IsUnusableReported : Inputs → List Named → Device → ExitStatus → Type 0
IsUnusableReported i files err answer = IsOneUnusable i files answer × IsReasonReported err

-- The task's file, as a file of certificates.
abbrev pub stream_file : Task → Named
stream_file task = (wanted.Certificates, task.file.now)

-- What the file of a chain must contain: certificates, with the end entity's first if
-- `--leaf-first` is given, else last.
abbrev pub chain_wanted : Bool → Wanted
chain_wanted true = wanted.LeafFirst
chain_wanted false = wanted.Certificates

-- The task's file, as the file of a chain.
abbrev pub chain_file : Task → Named
chain_file task = (chain_wanted task.leaf_first, task.file.now)

-- The task's file of trust anchors.
abbrev pub anchors_file : Task → Named
anchors_file task = (wanted.Anchors, task.anchors.now)

-- The task's file of certificates is opened, and this holds for its input; or the file can't be
-- used, which is reported, and nothing is written to the output.
abbrev pub OnStreamFile : Inputs → Device → Device → Task → ExitStatus → (Device → Type 0) → Type 0
OnStreamFile i out err task answer Holds =
    OnNamedFile i (stream_file task) Holds
    ⊎ (Untouched out × IsUnusableReported i (stream_file task ∷ []) err answer)

-- The task's file of answers.
abbrev pub answers_file : Task → Named
answers_file task = (wanted.Lines, task.answers.now)

-- The files that `verify` and `explain chain` open, in this order.
abbrev pub chain_files : Task → List Named
chain_files task = answers_file task ∷ anchors_file task ∷ chain_file task ∷ []

-- The message for a clock that can't be read.
abbrev pub clock_line : List ℕ
clock_line = codes "cannot read the clock\n"

-- The validation time is known, the three files are opened, and this holds for them; or the clock
-- can't be read or a file can't be used, which is reported and ends the run.
abbrev pub OnChainFiles : Clock → Inputs → Device → Device → Task → Status
    → (Device → Device → Device → ℕ → Type 0) → Type 0
OnChainFiles tells i out err task answer Holds =
    ((seconds : ℕ) × IsValidationTime tells task.moment seconds
    × (OnNamedFile i (answers_file task) (λ answers. OnNamedFile i (anchors_file task) (λ anchors.
    OnNamedFile i (chain_file task) (λ stream. Holds answers anchors stream seconds)))
    ⊎ (Untouched out × Exits (IsUnusableReported i (chain_files task) err) answer)))
    ⊎ (IsClockUnreadable tells task.moment × Untouched out × IsWriteTried err clock_line
    × (answer ≡ forms.Exit statuses.Device))

-- The arguments of path validation that a task contains, at this time.
abbrev pub terms_at : Task → ℕ → Terms
terms_at task seconds = record {
  moment = seconds;
  purpose = task.purpose;
  limit = task.limit;
  is_json = task.json;
  demands = task.demands;
  fails_on_remark = task.fails_on_remark;
}

-- A verdict is found and reported; the bytes of the trust anchors and the certificates of the
-- stream determine whether the demands are met. Or what ended the run without a verdict is
-- reported.
abbrev pub IsFoundReported : Device → Device → Judge → Device → Device → Terms → Status → Type 0
IsFoundReported anchors stream judge out err terms answer =
    ((checked : Checked) × (octets : List ℕ) × (kept : Kept)
    × IsOutcome anchors stream judge terms.moment (purpose_plain terms.purpose) terms.limit
    (outcomes.Checked checked)
    × IsWhole anchors most_octets octets × IsFed stream kept
    × IsChainReported terms (judge.answers judge.old) octets kept.certificates out err checked
    answer)
    ⊎ ((error : AnchorsError)
    × IsOutcome anchors stream judge terms.moment (purpose_plain terms.purpose) terms.limit
    (outcome_of error)
    × Untouched out × Exits (IsOutcomeReported err (outcome_of error)) answer)

-- The answers are read, and the chain is validated; a signature is valid if and only if the answers
-- say so. Or it is reported why the answers can't be read.
abbrev pub IsValidated : Device → Device → Device → Device → Device → Terms → Status → Type 0
IsValidated answers anchors stream out err terms answer =
    ((listing : List Question) × (old_judge : AnswersJudge) × (new_judge : AnswersJudge)
    × AreAnswers answers (Ok listing)
    × (judge_answers old_judge ≡ only_yes_to listing) × (judge_questions old_judge ≡ 0)
    × IsFoundReported anchors stream (judging judge_answers judge_questions old_judge new_judge) out
    err terms answer)
    ⊎ ((none : NoAnswers) × AreAnswers answers (Err none) × Untouched anchors × Untouched stream
    × Untouched out × Exits (IsMissingAnswersReported err none) answer)

-- The effect of `verify`.
abbrev pub IsVerified : Clock → Inputs → Device → Device → Task → Status → Type 0
IsVerified tells i out err task answer =
    OnChainFiles tells i out err task answer (λ answers anchors stream seconds.
    OnFirstPart err (λ told. IsValidated answers anchors stream out told (terms_at task seconds)
    answer))

-- The effect of `explain chain`.
abbrev pub IsChainExplained : Clock → Inputs → Device → Device → Task → Status → Type 0
IsChainExplained tells i out err task answer =
    OnChainFiles tells i out err task answer (λ answers anchors stream seconds.
    OnFirstPart err (λ told. IsExplained answers anchors stream out told (terms_at task seconds)
    answer))

-- The effect of `questions`.
abbrev pub AreQuestionsListed : Inputs → Device → Device → Task → ExitStatus → Type 0
AreQuestionsListed i out err task answer =
    OnNamedFile i (anchors_file task) (λ anchors. OnNamedFile i (chain_file task) (λ stream.
    (found : Result (List ℕ) Outcome) × AreQuestionsFound anchors stream task.limit found
    × OnFirstPart err (λ told. AreQuestionsReported out told found answer)))
    ⊎ (Untouched out × IsUnusableReported i (anchors_file task ∷ chain_file task ∷ []) err answer)

-- `split` lists the certificates, or writes the one at this index.
abbrev pub IsSplitAt : Bool → Option ℕ → Device → Device → Kept → ExitStatus → Type 0
IsSplitAt json None out err kept answer = IsListed json out err kept answer
IsSplitAt json (Some place) out err kept answer = IsTaken out err kept place answer

-- The effect of `split`.
abbrev pub IsSplit : Inputs → Device → Device → Task → ExitStatus → Type 0
IsSplit i out err task answer =
    OnStreamFile i out err task answer (λ stream. (kept : Kept) × FedWithin stream task.limit kept
    × OnFirstPart err (λ told. IsSplitAt task.json task.place out told kept answer))

-- The effect of `reverse`.
abbrev pub IsStreamReversed : Inputs → Device → Device → Task → ExitStatus → Type 0
IsStreamReversed i out err task answer =
    OnStreamFile i out err task answer (λ stream. (kept : Kept) × FedWithin stream task.limit kept
    × OnFirstPart err (λ told. IsReversed out told kept answer))

-- The effect of `describe stream`.
abbrev pub IsEachDescribed : Inputs → Device → Device → Task → ExitStatus → Type 0
IsEachDescribed i out err task answer =
    OnStreamFile i out err task answer (λ stream. (ended : Option Outcome)
    × IsDescribedStream stream out task.limit ended
    × OnFirstPart err (λ told. OnLastPart told (λ last. IsEarlyEndReported last ended answer)))

-- What the file of a command must contain.
abbrev pub wanted_of : Command → Wanted
wanted_of (commands.Describe kind) = wanted_of_kind kind
wanted_of (commands.Explain kind) = wanted_of_kind kind
wanted_of commands.ExplainAnchors = wanted.Anchors
wanted_of _ = wanted.Certificates

-- The task's file, which a command reads before it writes anything.
abbrev pub whole_file : Task → Named
whole_file task = (wanted_of task.command, task.file.now)

-- The file is opened but can't be read to its end, or it can't be used. Either is reported.
abbrev pub IsUnreadable : Inputs → Named → Device → ExitStatus → Type 0
IsUnreadable i file err answer =
    OnNamedFile i file (λ input. OnFirstPart err (λ told. IsUnreadReported input told answer))
    ⊎ IsUnusableReported i (file ∷ []) err answer

-- The command takes a file that should be one value.
abbrev pub takes_one : Command → Bool
takes_one (commands.Describe kind) = true
takes_one (commands.Explain kind) = true
takes_one _ = false

-- The task's file is read, to its end unless many bytes follow its only value, and this holds for
-- the bytes and for the remaining run of the error output; or it can't be read, which is reported,
-- and nothing is written to the output.
abbrev pub OnWholeFile : Inputs → Device → Device → Task → ExitStatus → (List ℕ → Device → Type 0)
    → Type 0
OnWholeFile i out err task answer Holds =
    ((octets : List ℕ)
    × OnNamedFile i (whole_file task) (λ input. IsReadIf (takes_one task.command) input octets)
    × OnLastPart err (Holds octets))
    ⊎ (Untouched out × IsUnreadable i (whole_file task) err answer)

-- The effect of `describe KIND`.
abbrev pub IsFileDescribed : Kind → Inputs → Device → Device → Task → ExitStatus → Type 0
IsFileDescribed kind i out err task answer =
    OnWholeFile i out err task answer (λ octets told.
    IsDescribed (IsOfKind kind octets) out told answer)

-- The file of `explain KIND` can be decoded. The other commands have no `--fail-on-remark`.
abbrev pub IsValidFile : Command → List ℕ → Type 0
IsValidFile (commands.Explain kind) octets = IsOfKind kind octets
IsValidFile _ octets = Unit {0}

-- The effect of `explain KIND`, `explain anchors` and `explain stream`.
abbrev pub IsFileExplained : Inputs → Device → Device → Task → ExitStatus → Type 0
IsFileExplained i out err task answer =
    OnWholeFile i out err task answer (λ octets told.
    IsTextWritten task.fails_on_remark (IsValidFile task.command octets) out told answer)

-- The effect of a task with this command.
abbrev pub IsCommandRun : Command → Clock → Inputs → Device → Device → Task → Status → Type 0
IsCommandRun commands.Verify tells i out err task answer = IsVerified tells i out err task answer
IsCommandRun commands.Questions tells i out err task answer =
    Exits (AreQuestionsListed i out err task) answer
IsCommandRun commands.Split tells i out err task answer = Exits (IsSplit i out err task) answer
IsCommandRun commands.Reverse tells i out err task answer =
    Exits (IsStreamReversed i out err task) answer
IsCommandRun (commands.Describe kind) tells i out err task answer =
    Exits (IsFileDescribed kind i out err task) answer
IsCommandRun commands.DescribeStream tells i out err task answer =
    Exits (IsEachDescribed i out err task) answer
IsCommandRun commands.ExplainChain tells i out err task answer =
    IsChainExplained tells i out err task answer
IsCommandRun _ tells i out err task answer = Exits (IsFileExplained i out err task) answer

-- The effect of a task.
abbrev pub IsTaskRun : Clock → Inputs → Device → Device → Task → Status → Type 0
IsTaskRun tells i out err task answer = IsCommandRun task.command tells i out err task answer

-- The argument asks for help or for the version.
abbrev pub is_help_or_version : List ℕ → Bool
is_help_or_version word =
    bytes_eq word (codes "--help") || (bytes_eq word (codes "-h")
    || bytes_eq word (codes "--version"))

-- One of the arguments before `--` asks for help or for the version.
abbrev pub any_help_or_version : List (List ℕ) → Bool
any_help_or_version words = any_before_end is_help_or_version words

-- The effect of the arguments. If one of them asks for help or for the version, that is written.
-- Else the task that they ask for is run, or it is reported what is wrong with them.
abbrev pub AreArgumentsRun : Clock → Inputs → Device → Device → List (List ℕ) → Status → Type 0
AreArgumentsRun tells i out err words answer =
    (IsTrue (any_help_or_version words)
    × Exits (IsAnswer out err (program_text words) statuses.Done) answer)
    ⊎ ((any_help_or_version words ≡ false)
    × (((task : Task) × AsksFor words task × IsTaskRun tells i out err task answer)
    ⊎ ((misuse : Misuse) × IsMisuse words misuse × Untouched out × IsReasonReported err
    × (answer ≡ forms.Exit statuses.Arguments))))
