-- The help texts and the version of the program.
use Rattle.std.specs.Prelude.{ℕ, List, [], ◌∷◌, ◌++◌, Bool, Option, Some, None, bytes_eq, codes}
use Rattle.std.specs.Prelude.{if◌then◌else◌, unwrap_or}
use Rattle.cert_tool.specs.declared.help.TheConstants.{ARGUMENTS, DESCRIBE, EXPLAIN, QUESTIONS}
use Rattle.cert_tool.specs.declared.help.TheConstants.{REVERSE, SERVE, SPLIT, USAGE, VERIFY, VERSION}
use Rattle.cert_tool.specs.ParsedArguments.{any_before_end}

-- The help for the command that begins with this word.
abbrev pub help_for : List ℕ → Option (List ℕ)
help_for word =
    if bytes_eq word (codes "questions") then Some QUESTIONS.now
    else if bytes_eq word (codes "verify") then Some VERIFY.now
    else if bytes_eq word (codes "split") then Some SPLIT.now
    else if bytes_eq word (codes "reverse") then Some REVERSE.now
    else if bytes_eq word (codes "describe") then Some DESCRIBE.now
    else if bytes_eq word (codes "explain") then Some EXPLAIN.now
    else if bytes_eq word (codes "serve") then Some SERVE.now
    else None

-- The help for the first of these words that names a command, or for the whole program.
abbrev pub help_of : List (List ℕ) → List ℕ
help_of [] = USAGE.now
help_of (word ∷ words) = unwrap_or (help_for word) (help_of words)

-- The argument asks for the version.
abbrev pub is_version : List ℕ → Bool
is_version word = bytes_eq word (codes "--version")

-- The output for arguments that ask for help or for the version.
abbrev pub program_text : List (List ℕ) → List ℕ
program_text words =
    if any_before_end is_version words then VERSION.now else help_of words ++ ARGUMENTS.now
