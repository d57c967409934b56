-- What is wrong with an orders file: which line, which word, and why.
use Rattle.std.specs.Prelude.{ℕ, List, [], ◌∷◌, ◌++◌, length, find, Bool, false, ◌&&◌}
use Rattle.std.specs.Prelude.{◌||◌, ◌==◌, not, bytes_eq, codes, if◌then◌else◌, Option, Some, None}
use Rattle.std.specs.Prelude.{nat_lt, decimal, slice_get}
use Rattle.std.specs.List.{list_all}
use Rattle.std.specs.Option.{option_and_then, option_map, option_or}
use Rattle.cert_desk_orders.specs.OrdersFile.{PlainLine, by_order, has, is_repeated, lines_in}
use Rattle.cert_desk_orders.specs.OrdersFile.{stands, stands_alone, takes, takes_text}
use Rattle.cert_desk_orders.specs.declared.wrong_lines.Why.{Why}
use Rattle.cert_desk_orders.specs.declared.wrong_lines.Why.TheVariants as whys

-- A wrong line: its number, its word or the word that is missing, and what is wrong.
pub record PlainWrong : Type 0 where
  pub number : ℕ
  pub word : List ℕ
  pub why : Why

-- There is such a word.
abbrev pub is_known : List ℕ → Bool
is_known word =
    stands_alone word || takes_text word || bytes_eq word (codes "serial")
    || bytes_eq word (codes "key") || bytes_eq word (codes "path")

-- What is wrong with the value of a word.
abbrev pub wrong_value : List ℕ → Option (List ℕ) → Option Why
wrong_value word None = if stands_alone word then None else Some whys.NoValue
wrong_value word (Some value) =
    if stands_alone word then Some whys.HasValue
    else if takes word value then None else Some whys.BadValue

-- The line isn't UTF-8, so it has neither a word nor a value.
abbrev pub is_unread : List ℕ → Option (List ℕ) → Bool
is_unread word None = length word == 0
is_unread word (Some value) = false

-- What is wrong with a line that has none of the words.
abbrev pub wrong_word : PlainLine → Why
wrong_word line =
    if is_unread line.word line.value then whys.NotUtf8 else whys.UnknownWord

-- What is wrong with a line after these lines of its order: its word, its value, or that its word
-- occurs before.
abbrev pub wrong_after : List PlainLine → PlainLine → Option Why
wrong_after before line =
    if is_known line.word
    then option_or (wrong_value line.word line.value)
    (if is_repeated before line then Some whys.Repeated else None)
    else Some (wrong_word line)

-- The line is wrong for this reason.
abbrev pub wrong_at : PlainLine → Why → PlainWrong
wrong_at line why = record { number = line.number; word = line.word; why = why }

-- The first wrong line of an order, after these lines.
abbrev pub first_wrong : List PlainLine → List PlainLine → Option PlainWrong
first_wrong before [] = None
first_wrong before (line ∷ more) =
    option_or (option_map (wrong_at line) (wrong_after before line))
    (first_wrong (before ++ line ∷ []) more)

-- The first line of an order with none of the words.
abbrev pub first_unknown : List PlainLine → Option PlainWrong
first_unknown lines =
    option_map (λ line. wrong_at line (wrong_word line))
    (find (λ line. not (is_known line.word)) lines)

-- The first word that an order needs and lacks.
abbrev pub missing_word : List PlainLine → Option (List ℕ)
missing_word lines =
    if not (stands (codes "name") lines) then Some (codes "name")
    else if not (stands (codes "from") lines) then Some (codes "from")
    else if not (stands (codes "until") lines) then Some (codes "until")
    else if not (stands (codes "serial") lines) then Some (codes "serial")
    else if not (stands (codes "key") lines) then Some (codes "key")
    else None

-- What is wrong with an order whose first line is this one and that lacks this word, if it lacks
-- one. A line with an unknown word comes first, because its word may be the missing one.
abbrev pub wrong_whole : PlainLine → List PlainLine → Option (List ℕ) → Option PlainWrong
wrong_whole line lines None = first_wrong [] lines
wrong_whole line lines (Some word) =
    option_or (first_unknown lines)
    (Some record { number = line.number; word = word; why = whys.MissingWord })

-- What is wrong with an order. Lines before the first `order` aren't part of one.
abbrev pub order_wrong : List PlainLine → Option PlainWrong
order_wrong [] = None
order_wrong (line ∷ more) =
    if has (codes "order") line
    then wrong_whole line (line ∷ more) (missing_word (line ∷ more))
    else option_or (first_unknown (line ∷ [])) (Some (wrong_at line whys.BeforeOrders))

-- What is wrong with the first wrong order.
abbrev pub first_wrong_order : List (List PlainLine) → Option PlainWrong
first_wrong_order [] = None
first_wrong_order (lines ∷ more) = option_or (order_wrong lines) (first_wrong_order more)

-- What is wrong with a file.
abbrev pub wrong_line : List ℕ → Option PlainWrong
wrong_line octets = first_wrong_order (by_order (lines_in octets))

-- The first line with a word, in the order at an index of a file.
abbrev pub line_at : List ℕ → ℕ → List ℕ → Option PlainLine
line_at octets place word =
    option_and_then (find (has word)) (slice_get (by_order (lines_in octets)) place)

-- The word is printed: it has at most 32 bytes, and they are printable ASCII.
abbrev pub is_shown : List ℕ → Bool
is_shown word =
    not (nat_lt 32 (length word)) && list_all (λ octet. nat_lt 32 octet && nat_lt octet 127) word

-- What is said about the wrong value of a word.
abbrev pub value_reason : List ℕ → List ℕ
value_reason word =
    if bytes_eq word (codes "serial") then codes ": not bytes in base 16"
    else if bytes_eq word (codes "key") then codes ": not a SubjectPublicKeyInfo in base 16"
    else codes ": not a number up to 255"

-- The line that says something about the word of a line.
abbrev pub word_line : ℕ → List ℕ → List ℕ → List ℕ
word_line number word said =
    codes "orders: line " ++ decimal number ++ codes " " ++ word ++ said ++ codes "\n"

-- What is said about a word in quotes.
abbrev pub quoted : List ℕ → List ℕ → List ℕ
quoted said word = said ++ (word ++ codes "\"\n")

-- The line that says what is wrong with the line with this number and this word.
abbrev pub reason : ℕ → List ℕ → Why → List ℕ
reason number word whys.NotUtf8 = codes "orders: line " ++ decimal number ++ codes ": not UTF-8\n"
reason number word whys.UnknownWord =
    codes "orders: line " ++ decimal number
    ++ (if is_shown word then quoted (codes ": no word \"") word
    else codes ": no such word, and it isn't printable\n")
reason number word whys.BeforeOrders = word_line number word (codes ": before the first order")
reason number word whys.MissingWord =
    codes "orders: line " ++ decimal number ++ quoted (codes ": no line \"") word
reason number word whys.NoValue = word_line number word (codes ": no value")
reason number word whys.HasValue = word_line number word (codes ": nothing may follow")
reason number word whys.BadValue = word_line number word (value_reason word)
reason number word whys.Repeated = word_line number word (codes ": repeated")

-- The line that says what is wrong with a line.
abbrev pub reason_line : PlainWrong → List ℕ
reason_line wrong = reason wrong.number wrong.word wrong.why
