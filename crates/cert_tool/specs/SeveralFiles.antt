-- `describe` of several files: one run for each file.
use Rattle.std.specs.Prelude.{◌≡◌, ◌≢◌, ℕ, ◌⊎◌, List, [], ◌∷◌, Bool, true, false, codes, bytes_eq}
use Rattle.std.specs.Prelude.{◌++◌, is_some, if◌then◌else◌, length, nat_lt, Option, Some, None, map}
use Rattle.cert_tool_explain.specs.DeskIo.declared.exit_status.ExitStatus.{ExitStatus}
use Rattle.cert_tool_explain.specs.DeskIo.declared.exit_status.ExitStatus.TheVariants as statuses
use Rattle.cert_tool_explain.specs.DeskIo.Devices.{Device, Untouched}
use Rattle.cert_tool_explain.specs.DeskIo.NamedInputs.{Inputs}
use Rattle.cert_tool_explain.specs.DeskIo.Telling.{IsAnswer, IsMemoryTold}
use Rattle.cert_tool.specs.declared.several_files.Several.{Several}
use Rattle.cert_tool.specs.declared.status.Status.{Status}
use Rattle.cert_tool.specs.declared.status.Status.TheVariants as forms
use Rattle.cert_tool.specs.declared.tasks.Misuse.{Misuse}
use Rattle.cert_tool.specs.declared.tasks.Task.{Task}
use Rattle.cert_tool.specs.EarlyEnds.{IsReasonReported}
use Rattle.cert_tool.specs.ParsedArguments.{is_end, is_option, valued_key}
use Rattle.cert_tool.specs.Statuses.{Exits}
use Rattle.cert_tool.specs.TaskRuns.{AreArgumentsRun, Clock, IsTaskRun, any_help_or_version}
use Rattle.cert_tool.specs.Tasks.{AsksFor, IsMisuse}

-- The words among these arguments that are neither options nor the values of options; after `--`,
-- all are. `awaits`: the first argument is the value of the option before it.
abbrev pub words_in : Bool → List (List ℕ) → List (List ℕ)
words_in awaits [] = []
words_in true (word ∷ words) = words_in false words
words_in false (word ∷ words) =
    if is_end word then words
    else if is_option word then words_in (is_some (valued_key word)) words
    else word ∷ words_in false words

-- The options among these arguments, with their values.
abbrev pub options_in : Bool → List (List ℕ) → List (List ℕ)
options_in awaits [] = []
options_in true (word ∷ words) = word ∷ options_in false words
options_in false (word ∷ words) =
    if is_end word then []
    else if is_option word then word ∷ options_in (is_some (valued_key word)) words
    else options_in false words

-- The arguments of `describe` for several files: the options, and then the kind and the files.
-- There are none if there are fewer than two files.
abbrev pub with_files : List (List ℕ) → List (List ℕ) → Option (List (List ℕ) × List (List ℕ))
with_files options words = if nat_lt (length words) 3 then None else Some (options, words)

-- The arguments after `describe`, if they ask for the description of several files, and not for
-- help.
abbrev pub several_after : List (List ℕ) → Option (List (List ℕ) × List (List ℕ))
several_after words =
    if any_help_or_version words then None
    else with_files (options_in false words) (words_in false words)

-- The word is `describe`.
abbrev pub is_describe : List ℕ → Bool
is_describe word = bytes_eq word (codes "describe")

-- The arguments of the program, if they ask for the description of several files, and not for help.
abbrev pub several_in : List (List ℕ) → Option (List (List ℕ) × List (List ℕ))
several_in [] = None
several_in (word ∷ words) = if is_describe word then several_after words else None

-- The abstract value of `Several`.
abbrev pub several_plain : Several → List (List ℕ) × List (List ℕ)
several_plain s = (map (λ word. word.now) s.options.items, map (λ word. word.now) s.words.items)

-- The arguments for one of the files: the command, all options, and the kind and the file after
-- `--`.
abbrev pub for_file : List (List ℕ) → List ℕ → List ℕ → List (List ℕ)
for_file options kind file =
    (codes "describe" ∷ []) ++ options ++ (codes "--" ∷ kind ∷ file ∷ [])

-- A heading is written. No clause states its text. If that fails, it is reported.
abbrev pub IsHeaded : Device → Device → ExitStatus → Type 0
IsHeaded out err answer =
    ((text : List ℕ) × IsAnswer out err text statuses.Done answer)
    ⊎ (Untouched out × IsMemoryTold err answer)

-- A task is run after a heading is written. More text on the error output may follow.
abbrev pub IsRunHeaded : Clock → Inputs → Device → Device → Task → Status → Type 0
IsRunHeaded tells i out err task answer =
    (o : out.State) × (e : err.State) × (first : ExitStatus)
    × IsHeaded (record out { new = o }) (record err { new = e }) first
    × (((first ≡ statuses.Done) × (f : err.State)
    × IsTaskRun tells i (record out { old = o }) (record err { old = e; new = f }) task answer)
    ⊎ ((first ≢ statuses.Done) × (o ≡ out.new) × (e ≡ err.new) × (answer ≡ forms.Exit first)))

-- The task that the arguments ask for is run after a heading, or it is reported what is wrong with
-- them, or that memory ran out.
abbrev pub IsOneRun : Clock → Inputs → Device → Device → List (List ℕ) → Status → Type 0
IsOneRun tells i out err words answer =
    ((task : Task) × AsksFor words task × IsRunHeaded tells i out err task answer)
    ⊎ ((misuse : Misuse) × IsMisuse words misuse × Untouched out × IsReasonReported err
    × (answer ≡ forms.Exit statuses.Arguments))
    ⊎ (Untouched out × Exits (IsMemoryTold err) answer)

-- The status of two runs: that of the first one, unless it is `Done`.
abbrev pub first_error : Status → Status → Status
first_error (forms.Exit statuses.Done) second = second
first_error first second = first

-- This is the status of wrong arguments.
abbrev pub is_misuse : Status → Bool
is_misuse (forms.Exit statuses.Arguments) = true
is_misuse _ = false

-- The files are described in turn. The status is the first one that isn't `Done`. The run whose
-- arguments are wrong is the last one.
abbrev pub AreFilesRun : Clock → Inputs → Device → Device → List (List ℕ) → List ℕ → List (List ℕ)
    → Status → Type 0
AreFilesRun tells i out err options kind [] answer =
    Untouched out × Untouched err × (answer ≡ forms.Exit statuses.Done)
AreFilesRun tells i out err options kind (file ∷ files) answer =
    (o : out.State) × (e : err.State) × (first : Status)
    × IsOneRun tells i (record out { new = o }) (record err { new = e })
    (for_file options kind file) first
    × (((is_misuse first ≡ true) × (o ≡ out.new) × (e ≡ err.new)
    × (answer ≡ first))
    ⊎ ((is_misuse first ≡ false) × (second : Status)
    × AreFilesRun tells i (record out { old = o }) (record err { old = e }) options kind files
    second × (answer ≡ first_error first second)))

-- The files after the kind are described in turn.
abbrev pub AreKindRun : Clock → Inputs → Device → Device → List (List ℕ) → List (List ℕ) → Status
    → Type 0
AreKindRun tells i out err options [] answer =
    Untouched out × Untouched err × (answer ≡ forms.Exit statuses.Done)
AreKindRun tells i out err options (kind ∷ files) answer =
    AreFilesRun tells i out err options kind files answer

-- The effect of the arguments: several files are described, or there is one run.
abbrev pub AreRunsBy : Option (List (List ℕ) × List (List ℕ)) → Clock → Inputs → Device → Device
    → List (List ℕ) → Status → Type 0
AreRunsBy None tells i out err words answer =
    AreArgumentsRun tells i out err words answer
AreRunsBy (Some s) tells i out err words answer = AreKindRun tells i out err s.0 s.1 answer

-- The effect of the arguments of the program: several files are described, or there is one run. Or
-- memory runs out for the arguments, and that is reported.
abbrev pub AreWordsRun : Clock → Inputs → Device → Device → List (List ℕ) → Status → Type 0
AreWordsRun tells i out err words answer =
    AreRunsBy (several_in words) tells i out err words answer
    ⊎ (Untouched out × Exits (IsMemoryTold err) answer)
