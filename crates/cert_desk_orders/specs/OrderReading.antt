-- Parsing an orders file.
use Rattle.std.specs.Prelude.{◌≡◌, ℕ, ◌+◌, List, Option, Some, codes, drop, map}
use Rattle.std.specs.List.{position_or_len}
use Rattle.x509_cert_parts.specs.Der.Grammar.{plain_option}
use Rattle.cert_desk_orders.specs.declared.line.Line.{Line}
use Rattle.cert_desk_orders.specs.declared.orders_error.OrdersError.{OrdersError}
use Rattle.cert_desk_orders.specs.declared.orders_error.OrdersError.TheVariants as errors
use Rattle.cert_desk_orders.specs.declared.wrong_lines.WrongLine.{WrongLine}
use Rattle.cert_desk_orders.specs.OrdersFile.{PlainLine, has}
use Rattle.cert_desk_orders.specs.Reasons.{PlainWrong}

-- A line as its number, word and value.
abbrev pub line_plain : Line → PlainLine
line_plain line = record {
  number = line.number;
  word = line.word.now;
  value = plain_option (λ value. value.now) line.value;
}

-- Lines as their numbers, words and values.
abbrev pub lines_plain : List Line → List PlainLine
lines_plain lines = map line_plain lines

-- A wrong line as its number, word and reason.
abbrev pub wrong_plain : WrongLine → PlainWrong
wrong_plain wrong = record { number = wrong.number; word = wrong.word.now; why = wrong.why }

-- The error of the parser, given the number of the wrong line.
abbrev pub IsFaultIn : Option ℕ → OrdersError → Type 0
IsFaultIn faulty (errors.Line number) = faulty ≡ Some number
IsFaultIn faulty errors.OutOfMemory = Unit {0}

-- The number of lines of the first order.
abbrev pub order_len : List PlainLine → ℕ
order_len lines = position_or_len (has (codes "order")) (drop 1 lines) + 1
