-- How the arguments are parsed: the options, the value of each, and the other words.
use Rattle.std.specs.Prelude.{ℕ, List, [], ◌∷◌, Bool, true, false, codes, bytes_eq, take, is_some}
use Rattle.std.specs.Prelude.{◌==◌, ◌||◌}
use Rattle.std.specs.Prelude.{Option, Some, None, option_map, Result, Ok, Err, if◌then◌else◌}
use Rattle.std.specs.List.{after_first, before_first}
use Rattle.cert_tool.specs.declared.parsed_arguments.Key.{Key}
use Rattle.cert_tool.specs.declared.parsed_arguments.Key.TheVariants as keys
use Rattle.cert_tool.specs.declared.parsed_arguments.ParsedArguments.{ParsedArguments}
use Rattle.cert_tool.specs.declared.parsed_arguments.ArgumentError.{ArgumentError}
use Rattle.cert_tool.specs.declared.parsed_arguments.ArgumentError.TheVariants as faults

-- The option with this name.
abbrev pub key_of : List ℕ → Option Key
key_of word =
    if bytes_eq word (codes "--anchors") then Some keys.Anchors
    else if bytes_eq word (codes "--answers") then Some keys.Answers
    else if bytes_eq word (codes "--at") then Some keys.At
    else if bytes_eq word (codes "--purpose") then Some keys.Purpose
    else if bytes_eq word (codes "--limit") then Some keys.Limit
    else if bytes_eq word (codes "--place") then Some keys.Place
    else if bytes_eq word (codes "--json") then Some keys.Json
    else if bytes_eq word (codes "--digests") then Some keys.Digests
    else if bytes_eq word (codes "--leaf-first") then Some keys.LeafFirst
    else if bytes_eq word (codes "--strict") then Some keys.Strict
    else if bytes_eq word (codes "--host") then Some keys.Host
    else if bytes_eq word (codes "--warn-days") then Some keys.WarnDays
    else if bytes_eq word (codes "--fail-on-remark") then Some keys.FailOnRemark
    else None

-- The options that take no value. The value of such an option is its own name.
abbrev pub takes_no_value : Key → Bool
takes_no_value keys.Json = true
takes_no_value keys.Digests = true
takes_no_value keys.LeafFirst = true
takes_no_value keys.Strict = true
takes_no_value keys.FailOnRemark = true
takes_no_value _ = false

-- The option, if it takes a value.
abbrev pub if_valued : Option Key → Option Key
if_valued (Some key) = if takes_no_value key then None else Some key
if_valued None = None

-- The option with this name, if it takes a value.
unfoldable pub valued_key : List ℕ → Option Key
valued_key name = if_valued (key_of name)

-- The byte is `=`.
abbrev pub is_equals : ℕ → Bool
is_equals octet = octet == 61

-- The argument `--`, after which there are no options.
abbrev pub is_end : List ℕ → Bool
is_end word = bytes_eq word (codes "--")

-- One of the words before `--` passes a test.
abbrev pub any_before_end : (List ℕ → Bool) → List (List ℕ) → Bool
any_before_end test [] = false
any_before_end test (word ∷ words) =
    if is_end word then false else test word || any_before_end test words

-- The parsed arguments: the first three that are neither options nor values, the value of each
-- option, the option whose value comes next, and whether the options have ended.
pub record PlainArguments : Type 0 where
  pub first : Option (List ℕ)
  pub second : Option (List ℕ)
  pub third : Option (List ℕ)
  pub anchors : Option (List ℕ)
  pub answers : Option (List ℕ)
  pub at : Option (List ℕ)
  pub purpose : Option (List ℕ)
  pub limit : Option (List ℕ)
  pub place : Option (List ℕ)
  pub json : Option (List ℕ)
  pub digests : Option (List ℕ)
  pub leaf_first : Option (List ℕ)
  pub strict : Option (List ℕ)
  pub host : Option (List ℕ)
  pub warn_days : Option (List ℕ)
  pub fail_on_remark : Option (List ℕ)
  pub awaited : Option Key
  pub is_ended : Bool

-- The result of parsing no arguments.
abbrev pub no_arguments : PlainArguments
no_arguments = record {
  first = None;
  second = None;
  third = None;
  anchors = None;
  answers = None;
  at = None;
  purpose = None;
  limit = None;
  place = None;
  json = None;
  digests = None;
  leaf_first = None;
  strict = None;
  host = None;
  warn_days = None;
  fail_on_remark = None;
  awaited = None;
  is_ended = false;
}

-- The value of an option, if it is given.
abbrev pub value_of : Key → PlainArguments → Option (List ℕ)
value_of keys.Anchors g = g.anchors
value_of keys.Answers g = g.answers
value_of keys.At g = g.at
value_of keys.Purpose g = g.purpose
value_of keys.Limit g = g.limit
value_of keys.Place g = g.place
value_of keys.Json g = g.json
value_of keys.Digests g = g.digests
value_of keys.LeafFirst g = g.leaf_first
value_of keys.Strict g = g.strict
value_of keys.Host g = g.host
value_of keys.WarnDays g = g.warn_days
value_of keys.FailOnRemark g = g.fail_on_remark

-- The arguments with this value of an option, and without an awaited option.
abbrev pub with_value : Key → List ℕ → PlainArguments → PlainArguments
with_value keys.Anchors text g = record g { anchors = Some text; awaited = None }
with_value keys.Answers text g = record g { answers = Some text; awaited = None }
with_value keys.At text g = record g { at = Some text; awaited = None }
with_value keys.Purpose text g = record g { purpose = Some text; awaited = None }
with_value keys.Limit text g = record g { limit = Some text; awaited = None }
with_value keys.Place text g = record g { place = Some text; awaited = None }
with_value keys.Json text g = record g { json = Some text; awaited = None }
with_value keys.Digests text g = record g { digests = Some text; awaited = None }
with_value keys.LeafFirst text g = record g { leaf_first = Some text; awaited = None }
with_value keys.Strict text g = record g { strict = Some text; awaited = None }
with_value keys.Host text g = record g { host = Some text; awaited = None }
with_value keys.WarnDays text g = record g { warn_days = Some text; awaited = None }
with_value keys.FailOnRemark text g = record g { fail_on_remark = Some text; awaited = None }

-- The errors of the arguments: an unknown option, or a value attached to an option that takes none;
-- an option given twice; an option without its value; too many other words.
pub data PlainArgumentError : Type 0 where
  unknown : List ℕ → PlainArgumentError
  twice : Key → PlainArgumentError
  no_value : Key → PlainArgumentError
  surplus : List ℕ → PlainArgumentError

-- The arguments with one more word, which is neither an option nor a value.
abbrev pub with_word : Option (List ℕ) → Option (List ℕ) → Option (List ℕ) → List ℕ → PlainArguments
    → Result PlainArguments PlainArgumentError
with_word None second third word g = Ok (record g { first = Some word })
with_word (Some first) None third word g = Ok (record g { second = Some word })
with_word (Some first) (Some second) None word g = Ok (record g { third = Some word })
with_word (Some first) (Some second) (Some third) word g = Err (surplus word)

-- The argument begins with two dashes.
abbrev pub is_option : List ℕ → Bool
is_option word = bytes_eq (take 2 word) (codes "--")

-- The arguments with an option that has its value after `=`; if there is no such option, it is
-- unknown.
abbrev pub with_pair : Option Key → List ℕ → PlainArguments
    → Result PlainArguments PlainArgumentError
with_pair (Some key) word g =
    if is_some (value_of key g) then Err (twice key)
    else Ok (with_value key (after_first is_equals word) g)
with_pair None word g = Err (unknown word)

-- The arguments with an option, which may have its value after `=` or in the next argument. An
-- option that is given twice is an error.
abbrev pub with_key : Option Key → List ℕ → PlainArguments
    → Result PlainArguments PlainArgumentError
with_key (Some key) word g =
    if is_some (value_of key g) then Err (twice key)
    else if takes_no_value key then Ok (with_value key word g)
    else Ok (record g { awaited = Some key })
with_key None word g = with_pair (valued_key (before_first is_equals word)) word g

-- The arguments with an argument that begins with two dashes: `--`, or an option.
abbrev pub with_option : List ℕ → PlainArguments → Result PlainArguments PlainArgumentError
with_option word g =
    if is_end word then Ok (record g { is_ended = true }) else with_key (key_of word) word g

-- The arguments with one more argument, which isn't the value of an option before it. After `--`,
-- and without two dashes, it is no option.
abbrev pub with_argument : Bool → List ℕ → PlainArguments
    → Result PlainArguments PlainArgumentError
with_argument true word g = with_word g.first g.second g.third word g
with_argument false word g =
    if is_option word then with_option word g else with_word g.first g.second g.third word g

-- The arguments with one more argument; an option that awaits its value takes it.
abbrev pub step_by : Option Key → PlainArguments → List ℕ → Result PlainArguments PlainArgumentError
step_by (Some key) g word = Ok (with_value key word g)
step_by None g word = with_argument g.is_ended word g

-- The arguments with one more argument.
abbrev pub step : PlainArguments → List ℕ → Result PlainArguments PlainArgumentError
step g word = step_by g.awaited g word

-- The arguments at their end, where no option may await its value.
abbrev pub ended_by : Option Key → PlainArguments → Result PlainArguments PlainArgumentError
ended_by (Some key) g = Err (no_value key)
ended_by None g = Ok g

-- The arguments with these arguments after them, or the first error.
abbrev pub read_on : Result PlainArguments PlainArgumentError → List (List ℕ)
    → Result PlainArguments PlainArgumentError
read_on (Err fault) words = Err fault
read_on (Ok g) [] = ended_by g.awaited g
read_on (Ok g) (word ∷ words) = read_on (step g word) words

-- The parsed arguments, or the first error.
unfoldable pub parse_arguments : List (List ℕ) → Result PlainArguments PlainArgumentError
parse_arguments words = read_on (Ok no_arguments) words

-- The abstract value of `ParsedArguments`.
abbrev pub arguments_plain : ParsedArguments → PlainArguments
arguments_plain g = record {
  first = option_map (λ text. text.now) g.first;
  second = option_map (λ text. text.now) g.second;
  third = option_map (λ text. text.now) g.third;
  anchors = option_map (λ text. text.now) g.anchors;
  answers = option_map (λ text. text.now) g.answers;
  at = option_map (λ text. text.now) g.at;
  purpose = option_map (λ text. text.now) g.purpose;
  limit = option_map (λ text. text.now) g.limit;
  place = option_map (λ text. text.now) g.place;
  json = option_map (λ text. text.now) g.json;
  digests = option_map (λ text. text.now) g.digests;
  leaf_first = option_map (λ text. text.now) g.leaf_first;
  strict = option_map (λ text. text.now) g.strict;
  host = option_map (λ text. text.now) g.host;
  warn_days = option_map (λ text. text.now) g.warn_days;
  fail_on_remark = option_map (λ text. text.now) g.fail_on_remark;
  awaited = g.awaited;
  is_ended = g.is_ended;
}

-- The abstract value of `ArgumentError`.
abbrev pub error_plain : ArgumentError → PlainArgumentError
error_plain (faults.Unknown word) = unknown word.now
error_plain (faults.Twice key) = twice key
error_plain (faults.NoValue key) = no_value key
error_plain (faults.Surplus word) = surplus word.now

-- The abstract value of the result of parsing arguments.
abbrev pub given_read : Result ParsedArguments ArgumentError
    → Result PlainArguments PlainArgumentError
given_read (Ok g) = Ok (arguments_plain g)
given_read (Err fault) = Err (error_plain fault)

-- The abstract value of the arguments after more of them were parsed, or the error.
abbrev pub given_after : Result (Unit {0}) ArgumentError → ParsedArguments
    → Result PlainArguments PlainArgumentError
given_after (Ok done) g = Ok (arguments_plain g)
given_after (Err fault) g = Err (error_plain fault)
