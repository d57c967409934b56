-- Files of answers: lines of the form `PLACE ANCHOR KEY ALGORITHM SIGNED BITS`.
use Rattle.std.specs.Prelude.{ℕ, ◌+◌, List, [], ◌∷◌, Bool, true, false, ◌&&◌, ◌||◌, ◌==◌, nat_le}
use Rattle.std.specs.Prelude.{bytes_eq, codes, if◌then◌else◌, Option, Some, None, Result, Ok, Err}
use Rattle.std.specs.List.{list_all, slice_split}
use Rattle.cert_desk_checking.specs.Der.ErrorTypes.ErrorKind.{ErrorKind}
use Rattle.cert_desk_checking.specs.Der.BitStrings.{Bits}
use Rattle.cert_desk_checking.specs.Der.Grammar.{read_whole}
use Rattle.cert_desk_checking.specs.Der.Shapes.{Shape, Value}
use Rattle.hex.specs.Hex.{decode_of}
use Rattle.hex.specs.declared.error.FromHexError.{FromHexError}
use Rattle.cert_desk_checking.specs.Oid.Bound.{Bound}
use Rattle.cert_desk_checking.specs.CertParts.Grammar.{Algorithm, PublicKey, algorithm_identifier}
use Rattle.cert_desk_checking.specs.CertParts.Grammar.{bit_string}
use Rattle.cert_desk_checking.specs.CertParts.Grammar.{public_key_info}
use Rattle.cert_desk_checking.specs.DeskRules.Questions.{Question}
use Rattle.cert_desk_answers.specs.declared.line_fault.LineFault.{LineFault}
use Rattle.cert_desk_answers.specs.declared.line_fault.LineFault.TheVariants as faults

-- The bytes of a text in base 16, or this error.
abbrev pub octets_or : LineFault → Result (List ℕ) FromHexError → Result (List ℕ) LineFault
octets_or fault (Ok octets) = Ok octets
octets_or fault (Err error) = Err fault

-- The bytes of a text in base 16, or this error if it isn't one.
abbrev pub octets_in : LineFault → List ℕ → Result (List ℕ) LineFault
octets_in fault text = octets_or fault (decode_of text)

-- The value that was decoded, or this error.
abbrev pub value_or : {P Q : Type 0} → LineFault → Result (P × Q) ErrorKind → Result P LineFault
value_or fault (Ok read) = Ok read.0
value_or fault (Err error) = Err fault

-- The value of a shape that these bytes encode.
abbrev pub value_of : (s : Shape) → LineFault → Result (List ℕ) LineFault
    → Result (Value s) LineFault
value_of s fault (Ok octets) = value_or fault (read_whole s octets)
value_of s fault (Err other) = Err other

-- The public key whose encoding in base 16 is a word, or the error.
abbrev pub key_in : List ℕ → Result PublicKey LineFault
key_in text = value_of (public_key_info Bound) faults.NoKey (octets_in faults.KeyNotBase16 text)

-- The signature algorithm whose encoding in base 16 is a word, or the error.
abbrev pub algorithm_in : List ℕ → Result Algorithm LineFault
algorithm_in text =
    value_of (algorithm_identifier Bound) faults.NoAlgorithm
    (octets_in faults.AlgorithmNotBase16 text)

-- The bits of the signature whose encoding in base 16 is a word, or the error.
abbrev pub bits_in : List ℕ → Result Bits LineFault
bits_in text = value_of bit_string faults.NoBits (octets_in faults.BitsNotBase16 text)

-- The question with these parts, or the error of the first part that is wrong.
abbrev pub question_of : Result PublicKey LineFault → Result Algorithm LineFault
    → Result (List ℕ) LineFault → Result Bits LineFault → Result Question LineFault
question_of (Err fault) algorithm signed bits = Err fault
question_of (Ok key) (Err fault) signed bits = Err fault
question_of (Ok key) (Ok algorithm) (Err fault) bits = Err fault
question_of (Ok key) (Ok algorithm) (Ok signed) (Err fault) = Err fault
question_of (Ok key) (Ok algorithm) (Ok signed) (Ok bits) =
    Ok (record { key = key; algorithm = algorithm; signed = signed; bits = bits })

-- The question on the last four words, or the error of the first wrong word.
abbrev pub question_in : List ℕ → List ℕ → List ℕ → List ℕ → Result Question LineFault
question_in key algorithm signed bits =
    question_of (key_in key) (algorithm_in algorithm) (octets_in faults.SignedNotBase16 signed)
    (bits_in bits)

-- A decimal digit in ASCII.
abbrev pub is_digit : ℕ → Bool
is_digit octet = nat_le 48 octet && nat_le octet 57

-- The text consists of one or more decimal digits.
abbrev pub is_number : List ℕ → Bool
is_number [] = false
is_number (first ∷ rest) = list_all is_digit (first ∷ rest)

-- The index of a trust anchor, or `-`.
abbrev pub is_anchor : List ℕ → Bool
is_anchor text = is_number text || bytes_eq text (codes "-")

-- The question on six words, or the first error.
abbrev pub six_say : List ℕ → List ℕ → List ℕ → List ℕ → List ℕ → List ℕ
    → Result Question LineFault
six_say place anchor key algorithm signed bits =
    if is_number place
    then (if is_anchor anchor then question_in key algorithm signed bits else Err faults.NoAnchor)
    else Err faults.NoPlace

-- The question on the words of a line, or the first error.
abbrev pub words_say : List (List ℕ) → Result Question LineFault
words_say (place ∷ anchor ∷ key ∷ algorithm ∷ signed ∷ bits ∷ []) =
    six_say place anchor key algorithm signed bits
words_say _ = Err faults.NotSixWords

-- The parts of a text between separators.
abbrev pub parts : ℕ → List ℕ → List (List ℕ)
parts separator text = slice_split (λ octet. octet == separator) text

-- The line is skipped: it is empty or begins with `#`.
abbrev pub is_skipped : List ℕ → Bool
is_skipped [] = true
is_skipped (first ∷ rest) = first == 35

-- The question of a line that isn't skipped, or its error.
abbrev pub said : Result Question LineFault → Result (Option Question) LineFault
said (Ok q) = Ok (Some q)
said (Err fault) = Err fault

-- The meaning of a line: an answer, nothing if it is skipped, or its error.
unfoldable pub line_says : List ℕ → Result (Option Question) LineFault
line_says line = if is_skipped line then Ok None else said (words_say (parts 32 line))

-- The answers of several lines, where `number` is the number of the first, or the number of the
-- first wrong line and its error.
abbrev pub with_line : ℕ → Result (Option Question) LineFault
    → Result (List Question) (ℕ × LineFault) → Result (List Question) (ℕ × LineFault)
with_line number (Err fault) rest = Err (number, fault)
with_line number (Ok None) rest = rest
with_line number (Ok (Some q)) (Ok qs) = Ok (q ∷ qs)
with_line number (Ok (Some q)) (Err first) = Err first

-- The answers of the lines after the first `before` lines, or the first error.
abbrev pub answers_from : ℕ → List (List ℕ) → Result (List Question) (ℕ × LineFault)
answers_from before [] = Ok []
answers_from before (line ∷ more) =
    with_line (before + 1) (line_says line) (answers_from (before + 1) more)

-- The answers of a file, or the number of its first wrong line and its error.
abbrev pub file_says : List ℕ → Result (List Question) (ℕ × LineFault)
file_says octets = answers_from 0 (parts 10 octets)
