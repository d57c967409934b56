-- The tasks that the arguments of `cert_tool` ask for.
use Rattle.std.specs.Prelude.{◌≡◌, ◌≢◌, ℕ, ◌≤◌, ◌<◌, ◌^◌, ◌⊎◌, List, [], Bool, true, false}
use Rattle.std.specs.Prelude.{◌&&◌, ◌||◌, codes, bytes_eq, is_ok, is_some, unwrap_or, if◌then◌else◌}
use Rattle.std.specs.Prelude.{IsSome, IsTrue, Option, Some, None, option_map, Ok, Err}
use Rattle.std.specs.Borrow.{Bor}
use Rattle.cert_tool_explain.specs.Oid.Bound.{Bound, max_size}
use Rattle.cert_tool_explain.specs.Oid.TextReading.{read_text}
use Rattle.cert_tool_explain.specs.Der.Dates.{Civil, is_civil}
use Rattle.cert_tool_explain.specs.Types.DateTexts.{date_text}
use Rattle.cert_tool_explain.specs.Types.Seconds.{last_second, unix_seconds}
use Rattle.cert_tool_explain.specs.DeskChecking.Arguments.{IsNumber}
use Rattle.cert_tool_limits.specs.Hosts.declared.host.Host.{Host}
use Rattle.cert_tool_limits.specs.Hosts.Hosts.{IsHost}
use Rattle.cert_tool.specs.declared.parsed_arguments.Key.{Key}
use Rattle.cert_tool.specs.declared.parsed_arguments.Key.TheVariants as keys
use Rattle.cert_tool.specs.declared.kinds.Kind.{Kind}
use Rattle.cert_tool.specs.declared.kinds.Kind.TheVariants as kinds
use Rattle.cert_tool.specs.declared.option_values.Moment.{Moment}
use Rattle.cert_tool.specs.declared.option_values.Moment.TheVariants as moments
use Rattle.cert_tool.specs.declared.tasks.Command.{Command}
use Rattle.cert_tool.specs.declared.tasks.Command.TheVariants as commands
use Rattle.cert_tool.specs.declared.tasks.Need.{Need}
use Rattle.cert_tool.specs.declared.tasks.Need.TheVariants as needs
use Rattle.cert_tool.specs.declared.tasks.Misuse.{Misuse}
use Rattle.cert_tool.specs.declared.tasks.Misuse.TheVariants as faults
use Rattle.cert_tool.specs.declared.tasks.Task.{Task}
use Rattle.cert_tool.specs.ParsedArguments.{PlainArguments, value_of, parse_arguments, error_plain}

-- The kind with this name.
abbrev pub kind_of : List ℕ → Option Kind
kind_of word =
    if bytes_eq word (codes "certificate") then Some kinds.Certificate
    else if bytes_eq word (codes "list") then Some kinds.List
    else if bytes_eq word (codes "request") then Some kinds.Request
    else if bytes_eq word (codes "ocsp-request") then Some kinds.OcspRequest
    else if bytes_eq word (codes "ocsp-response") then Some kinds.OcspResponse
    else if bytes_eq word (codes "message") then Some kinds.Message
    else if bytes_eq word (codes "key") then Some kinds.Key
    else if bytes_eq word (codes "timestamp") then Some kinds.Timestamp
    else None

-- The command of this one word.
abbrev pub of_word : List ℕ → Option Command
of_word word =
    if bytes_eq word (codes "questions") then Some commands.Questions
    else if bytes_eq word (codes "verify") then Some commands.Verify
    else if bytes_eq word (codes "split") then Some commands.Split
    else if bytes_eq word (codes "reverse") then Some commands.Reverse
    else None

-- The `describe` command for a kind.
abbrev pub of_described : List ℕ → Option Command
of_described kind =
    if bytes_eq kind (codes "stream") then Some commands.DescribeStream
    else option_map commands.Describe (kind_of kind)

-- The `explain` command for a kind.
abbrev pub of_explained : List ℕ → Option Command
of_explained kind =
    if bytes_eq kind (codes "chain") then Some commands.ExplainChain
    else if bytes_eq kind (codes "stream") then Some commands.ExplainStream
    else if bytes_eq kind (codes "anchors") then Some commands.ExplainAnchors
    else option_map commands.Explain (kind_of kind)

-- The command of two words.
abbrev pub of_words : List ℕ → List ℕ → Option Command
of_words word kind =
    if bytes_eq word (codes "describe") then of_described kind
    else if bytes_eq word (codes "explain") then of_explained kind
    else None

-- A command with its file.
abbrev pub with_file : Option Command → List ℕ → Option (Command × List ℕ)
with_file command file = option_map (λ c. (c, file)) command

-- The command and the file that the first three words name, if they do.
abbrev pub command_by : Option (List ℕ) → Option (List ℕ) → Option (List ℕ)
    → Option (Command × List ℕ)
command_by (Some word) (Some file) None = with_file (of_word word) file
command_by (Some word) (Some kind) (Some file) = with_file (of_words word kind) file
command_by _ _ _ = None

-- The command and the file that the arguments name, if they do.
abbrev pub command_in : PlainArguments → Option (Command × List ℕ)
command_in g = command_by g.first g.second g.third

-- The abstract value of the code's pair.
abbrev pub plain_command : Option (Command × Bor (List ℕ)) → Option (Command × List ℕ)
plain_command pair = option_map (λ p. (p.0, p.1.now)) pair

-- The commands that validate a chain.
abbrev pub judges : Command → Bool
judges commands.Verify = true
judges commands.ExplainChain = true
judges _ = false

-- The commands that require trust anchors.
abbrev pub asks : Command → Bool
asks commands.Questions = true
asks command = judges command

-- The commands that read a stream of certificates.
abbrev pub reads_stream : Command → Bool
reads_stream commands.Split = true
reads_stream commands.Reverse = true
reads_stream commands.DescribeStream = true
reads_stream commands.ExplainStream = true
reads_stream command = asks command

-- The command `split`, which takes an index.
abbrev pub splits : Command → Bool
splits commands.Split = true
splits _ = false

-- The command `verify`.
abbrev pub verifies : Command → Bool
verifies commands.Verify = true
verifies _ = false

-- The commands that print a description.
abbrev pub describes : Command → Bool
describes (commands.Describe kind) = true
describes commands.DescribeStream = true
describes _ = false

-- The commands that print text that can be JSON. The others write bytes, or lines that a verifier
-- reads.
abbrev pub tells : Command → Bool
tells commands.Questions = false
tells commands.Reverse = false
tells _ = true

-- The commands that print remarks.
abbrev pub remarks : Command → Bool
remarks (commands.Explain kind) = true
remarks commands.ExplainChain = true
remarks _ = false

-- Whether a command requires an option, takes it, or doesn't take it.
abbrev pub need_of : Command → Key → Need
need_of command keys.Anchors = if asks command then needs.Needed else needs.Barred
need_of command keys.Answers = if judges command then needs.Needed else needs.Barred
need_of command keys.At = if judges command then needs.Allowed else needs.Barred
need_of command keys.Purpose = if judges command then needs.Allowed else needs.Barred
need_of command keys.Limit = if reads_stream command then needs.Allowed else needs.Barred
need_of command keys.Place = if splits command then needs.Allowed else needs.Barred
need_of command keys.Json = if tells command then needs.Allowed else needs.Barred
need_of command keys.Digests = if describes command then needs.Allowed else needs.Barred
need_of command keys.LeafFirst = if asks command then needs.Allowed else needs.Barred
need_of command keys.Strict = if judges command then needs.Allowed else needs.Barred
need_of command keys.Host = if judges command then needs.Allowed else needs.Barred
need_of command keys.WarnDays = if verifies command then needs.Allowed else needs.Barred
need_of command keys.FailOnRemark = if remarks command then needs.Allowed else needs.Barred

-- An option is given if it is required, and not given if the command doesn't take it.
abbrev pub IsMet : Need → Option (List ℕ) → Type 0
IsMet needs.Needed value = IsSome value
IsMet needs.Allowed value = Unit {0}
IsMet needs.Barred value = value ≡ None

-- The command's condition on an option is met.
abbrev pub Keeps : Command → PlainArguments → Key → Type 0
Keeps command g key = IsMet (need_of command key) (value_of key g)

-- The command's conditions on all options are met.
abbrev pub KeepsAll : Command → PlainArguments → Type 0
KeepsAll command g =
    Keeps command g keys.Anchors × Keeps command g keys.Answers × Keeps command g keys.At
    × Keeps command g keys.Purpose × Keeps command g keys.Limit × Keeps command g keys.Place
    × Keeps command g keys.Json × Keeps command g keys.Digests × Keeps command g keys.LeafFirst
    × Keeps command g keys.Strict × Keeps command g keys.Host × Keeps command g keys.WarnDays
    × Keeps command g keys.FailOnRemark

-- The validation time that is given, or its default.
abbrev pub time_text : PlainArguments → List ℕ
time_text g = unwrap_or g.at (codes "now")

-- The key purpose that is given, or its default.
abbrev pub purpose_text : PlainArguments → List ℕ
purpose_text g = unwrap_or g.purpose (codes "serverAuth")

-- The limit that is given, or its default.
abbrev pub limit_text : PlainArguments → List ℕ
limit_text g = unwrap_or g.limit (codes "65536")

-- The text is this validation time: `now`, seconds since 1970-01-01T00:00:00Z, or a date; at most
-- 9999-12-31T23:59:59Z.
abbrev pub IsTimeText : Moment → List ℕ → Type 0
IsTimeText moments.Now text = text ≡ codes "now"
IsTimeText (moments.Seconds n) text = (n ≤ last_second)
    × (IsNumber n text
    ⊎ ((c : Civil) × (text ≡ date_text c) × (n ≡ unix_seconds c)))

-- The text isn't a validation time.
abbrev pub IsNoValidationTime : List ℕ → Type 0
IsNoValidationTime text = (text ≢ codes "now")
    × ((n : ℕ) → IsNumber n text → n ≤ last_second → ⊥)
    × ((c : Civil) → is_civil c ≡ true → text ≢ date_text c)

-- The dotted arcs of a key purpose that is given by its name in RFC 5280 4.2.1.12. Any other text
-- is unchanged.
abbrev pub arcs_of : List ℕ → List ℕ
arcs_of text =
    if bytes_eq text (codes "serverAuth") then codes "1.3.6.1.5.5.7.3.1"
    else if bytes_eq text (codes "clientAuth") then codes "1.3.6.1.5.5.7.3.2"
    else if bytes_eq text (codes "codeSigning") then codes "1.3.6.1.5.5.7.3.3"
    else if bytes_eq text (codes "emailProtection") then codes "1.3.6.1.5.5.7.3.4"
    else if bytes_eq text (codes "timeStamping") then codes "1.3.6.1.5.5.7.3.8"
    else if bytes_eq text (codes "OCSPSigning") then codes "1.3.6.1.5.5.7.3.9"
    else if bytes_eq text (codes "anyExtendedKeyUsage") then codes "2.5.29.37.0"
    else text

-- The text is a key purpose with this encoding, given by name or in dotted arcs.
abbrev pub IsPurpose : List ℕ → List ℕ → Type 0
IsPurpose arcs text = read_text Bound max_size (arcs_of text) ≡ Ok arcs

-- The text is this limit: a number from 6 to 2^32 - 1.
abbrev pub IsLimit : ℕ → List ℕ → Type 0
IsLimit n text = IsNumber n text × (6 ≤ n)

-- The index of one certificate, if it is given.
abbrev pub IsPlace : Option ℕ → Option (List ℕ) → Type 0
IsPlace None None = Unit {0}
IsPlace (Some n) (Some text) = IsNumber n text
IsPlace _ _ = ⊥

-- The host, if it is given.
abbrev pub IsHostOf : Option Host → Option (List ℕ) → Type 0
IsHostOf None None = Unit {0}
IsHostOf (Some host) (Some text) = IsHost text host
IsHostOf _ _ = ⊥

-- The number of days, which is below 2^32, if it is given.
abbrev pub IsDays : Option ℕ → Option (List ℕ) → Type 0
IsDays None None = Unit {0}
IsDays (Some n) (Some text) = IsNumber n text
IsDays _ _ = ⊥

-- `--json` is given for the bytes of one certificate.
abbrev pub is_bytes_in_json : PlainArguments → Bool
is_bytes_in_json g = is_some g.place && is_some g.json

-- The file name means standard input.
abbrev pub is_standard_input : List ℕ → Bool
is_standard_input name = bytes_eq name (codes "-")

-- Both files are standard input.
abbrev pub are_both_standard_input : List ℕ → List ℕ → Bool
are_both_standard_input first second = is_standard_input first && is_standard_input second

-- Two of the three files are standard input.
abbrev pub shares_input : List ℕ → List ℕ → List ℕ → Bool
shares_input anchors answers file =
    are_both_standard_input anchors answers || (are_both_standard_input anchors file
    || are_both_standard_input answers file)

-- The task has this command and this file, and its fields are the values of the options.
abbrev pub IsTask : Command → List ℕ → PlainArguments → Task → Type 0
IsTask command file g task =
    KeepsAll command g
    × (task.command ≡ command) × (task.file.now ≡ file)
    × (task.anchors.now ≡ unwrap_or g.anchors []) × (task.answers.now ≡ unwrap_or g.answers [])
    × IsTimeText task.moment (time_text g) × IsPurpose task.purpose (purpose_text g)
    × IsLimit task.limit (limit_text g) × IsPlace task.place g.place
    × (task.json ≡ is_some g.json) × (task.digests ≡ is_some g.digests)
    × (task.leaf_first ≡ is_some g.leaf_first)
    × (task.demands.is_strict ≡ is_some g.strict) × IsHostOf task.demands.host g.host
    × IsDays task.demands.warn_days g.warn_days
    × (task.fails_on_remark ≡ is_some g.fail_on_remark)
    × (is_bytes_in_json g ≡ false)
    × (shares_input task.anchors.now task.answers.now file ≡ false)

-- The arguments ask for this task.
abbrev pub AsksFor : List (List ℕ) → Task → Type 0
AsksFor words task =
    (g : PlainArguments) × (file : List ℕ) × (parse_arguments words ≡ Ok g)
    × (command_in g ≡ Some (task.command, file)) × IsTask task.command file g task

-- The text is the value of the option, or its default, and isn't a valid value of it.
abbrev pub IsWrongValue : Key → List ℕ → PlainArguments → Type 0
IsWrongValue keys.At text g = (text ≡ time_text g) × IsNoValidationTime text
IsWrongValue keys.Purpose text g = (text ≡ purpose_text g)
    × (is_ok (read_text Bound max_size (arcs_of text)) ≡ false)
IsWrongValue keys.Limit text g = (text ≡ limit_text g)
    × ((n : ℕ) → IsNumber n text → 6 ≤ n → n < 2 ^ 32 → ⊥)
IsWrongValue keys.Place text g = (g.place ≡ Some text)
    × ((n : ℕ) → IsNumber n text → n < 2 ^ 64 → ⊥)
IsWrongValue keys.Host text g = (g.host ≡ Some text) × ((host : Host) → IsHost text host → ⊥)
IsWrongValue keys.WarnDays text g = (g.warn_days ≡ Some text)
    × ((n : ℕ) → IsNumber n text → n < 2 ^ 32 → ⊥)
IsWrongValue _ text g = ⊥

-- The error in the options of a command.
abbrev pub IsOptionError : Command → List ℕ → PlainArguments → Misuse → Type 0
IsOptionError command file g (faults.Missing key) = (need_of command key ≡ needs.Needed)
    × (value_of key g ≡ None)
IsOptionError command file g (faults.Excess key) = (need_of command key ≡ needs.Barred)
    × IsSome (value_of key g)
IsOptionError command file g (faults.Wrong key text) = IsWrongValue key text.now g
IsOptionError command file g faults.BytesInJson = IsTrue (is_bytes_in_json g)
IsOptionError command file g faults.SharedInput =
    IsTrue (shares_input (unwrap_or g.anchors []) (unwrap_or g.answers []) file)
IsOptionError command file g _ = ⊥

-- The arguments don't name a command and a file, for this reason.
abbrev pub HasNoCommand : List (List ℕ) → Misuse → Type 0
HasNoCommand words (faults.Words fault) = parse_arguments words ≡ Err (error_plain fault)
HasNoCommand words faults.NoCommand =
    (g : PlainArguments) × (parse_arguments words ≡ Ok g) × (command_in g ≡ None)
HasNoCommand words _ = ⊥

-- The error in the arguments.
abbrev pub IsMisuse : List (List ℕ) → Misuse → Type 0
IsMisuse words misuse =
    HasNoCommand words misuse
    ⊎ ((g : PlainArguments) × (command : Command) × (file : List ℕ) × (parse_arguments words ≡ Ok g)
    × (command_in g ≡ Some (command, file)) × IsOptionError command file g misuse)
