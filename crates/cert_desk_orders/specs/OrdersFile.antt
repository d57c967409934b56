-- Orders files. Each line has a word and perhaps a value. Either the lines give orders, or one of
-- them is wrong.
use Rattle.std.specs.Prelude.{◌≡◌, ℕ, ◌+◌, List, [], ◌∷◌, ◌++◌, length, map, find, filter_map}
use Rattle.std.specs.Prelude.{Bool, true, false, ◌&&◌, ◌||◌, ◌==◌, not, nat_lt, bytes_eq, codes}
use Rattle.std.specs.Prelude.{if◌then◌else◌, Option, Some, None, is_some, string_bytes}
use Rattle.std.specs.List.{after_first, before_first, list_any, position_or_len, slice_split}
use Rattle.std.specs.Option.{option_and_then, option_or}
use Rattle.std.specs.Str.{is_utf8}
use Rattle.cert_desk_orders.specs.OrderValues.{octets_in, key_in, length_in}
use Rattle.x509_cert_parts.specs.Views.{key_plain}
use Rattle.cert_desk_orders.specs.declared.order.Order.{Order}

-- A line that isn't empty. Its word ends at the first space, after which its value begins, or with
-- the line. A line that isn't UTF-8 has no word.
pub record PlainLine : Type 0 where
  -- The number of the line, counted from 1.
  pub number : ℕ
  pub word : List ℕ
  pub value : Option (List ℕ)

-- The byte is a space.
abbrev pub is_blank : ℕ → Bool
is_blank octet = octet == 32

-- The text contains a space.
abbrev pub has_blank : List ℕ → Bool
has_blank text = nat_lt (position_or_len is_blank text) (length text)

-- The line with this number and these bytes.
abbrev pub line_of : ℕ → List ℕ → PlainLine
line_of number text =
    if is_utf8 text
    then record {
      number = number;
      word = before_first is_blank text;
      value = if has_blank text then Some (after_first is_blank text) else None;
    }
    else record { number = number; word = []; value = None }

-- The nonempty ones of these lines, where `number` is the number of the first.
abbrev pub lines_from : ℕ → List (List ℕ) → List PlainLine
lines_from number [] = []
lines_from number ([] ∷ more) = lines_from (number + 1) more
lines_from number ((octet ∷ octets) ∷ more) =
    line_of number (octet ∷ octets) ∷ lines_from (number + 1) more

-- The parts of a file between line ends, which are LF.
abbrev pub parts_in : List ℕ → List (List ℕ)
parts_in octets = slice_split (λ octet. octet == 10) octets

-- The nonempty lines of a file, counted from 1.
abbrev pub lines_in : List ℕ → List PlainLine
lines_in octets = lines_from 1 (parts_in octets)

-- The line has this word.
abbrev pub has : List ℕ → PlainLine → Bool
has word line = bytes_eq line.word word

-- One of the lines has this word.
abbrev pub stands : List ℕ → List PlainLine → Bool
stands word lines = list_any (has word) lines

-- The value of the first line with this word.
abbrev pub value_of : List ℕ → List PlainLine → Option (List ℕ)
value_of word lines = option_and_then (λ line. line.value) (find (has word) lines)

-- The value of a line, if it has this word.
abbrev pub value_if : List ℕ → PlainLine → Option (List ℕ)
value_if word line = if has word line then line.value else None

-- The values of all lines with this word.
abbrev pub values_of : List ℕ → List PlainLine → List (List ℕ)
values_of word lines = filter_map (value_if word) lines

-- The lines of each order, with one line put before them. The line belongs to the first order
-- unless that begins with `order`.
abbrev pub before_order : PlainLine → List (List PlainLine) → List (List PlainLine)
before_order line [] = (line ∷ []) ∷ []
before_order line ([] ∷ more) = (line ∷ []) ∷ more
before_order line ((next ∷ lines) ∷ more) =
    if has (codes "order") next then (line ∷ []) ∷ (next ∷ lines) ∷ more
    else (line ∷ next ∷ lines) ∷ more

-- The lines of a file, grouped by orders. A line begins an order if its word is `order`.
abbrev pub by_order : List PlainLine → List (List PlainLine)
by_order [] = []
by_order (line ∷ more) = before_order line (by_order more)

-- This word has no value.
abbrev pub stands_alone : List ℕ → Bool
stands_alone word =
    bytes_eq word (codes "order") || bytes_eq word (codes "client") || bytes_eq word (codes "ocsp")

-- The value of this word may be any text.
abbrev pub takes_text : List ℕ → Bool
takes_text word =
    bytes_eq word (codes "name") || bytes_eq word (codes "from") || bytes_eq word (codes "until")
    || bytes_eq word (codes "dns")

-- The value is allowed for this word.
abbrev pub takes : List ℕ → List ℕ → Bool
takes word value =
    if takes_text word then true
    else if bytes_eq word (codes "serial") then is_some (octets_in value)
    else if bytes_eq word (codes "key") then is_some (key_in value)
    else if bytes_eq word (codes "path") then is_some (length_in value)
    else false

-- The word has a value that is allowed for it, or none if it needs none.
abbrev pub fits : List ℕ → Option (List ℕ) → Bool
fits word None = stands_alone word
fits word (Some value) = takes word value

-- The word of the line occurs before, and isn't `dns`.
abbrev pub is_repeated : List PlainLine → PlainLine → Bool
is_repeated before line = not (has (codes "dns") line) && stands line.word before

-- The line is wrong after these lines.
abbrev pub is_faulty : List PlainLine → PlainLine → Bool
is_faulty before line = not (fits line.word line.value) || is_repeated before line

-- The number of the first wrong line of an order, after these lines.
abbrev pub first_faulty : List PlainLine → List PlainLine → Option ℕ
first_faulty before [] = None
first_faulty before (line ∷ more) =
    if is_faulty before line then Some line.number else first_faulty (before ++ line ∷ []) more

-- The order has all words that it needs.
abbrev pub is_whole : List PlainLine → Bool
is_whole lines =
    stands (codes "name") lines && stands (codes "from") lines && stands (codes "until") lines
    && stands (codes "serial") lines && stands (codes "key") lines

-- The number of the wrong line of an order. It is that of the first line if that isn't `order` or a
-- word is missing, and otherwise that of the first line that is wrong by itself.
abbrev pub order_fault : List PlainLine → Option ℕ
order_fault [] = None
order_fault (line ∷ more) =
    if has (codes "order") line && is_whole (line ∷ more) then first_faulty [] (line ∷ more)
    else Some line.number

-- The number of the first wrong line of several orders.
abbrev pub first_fault : List (List PlainLine) → Option ℕ
first_fault [] = None
first_fault (lines ∷ more) = option_or (order_fault lines) (first_fault more)

-- The order that its lines describe.
pub record SayOrder (lines : List PlainLine) (o : Order) : Type 0 where
  pub name : value_of (codes "name") lines ≡ Some (string_bytes o.name)
  pub from : value_of (codes "from") lines ≡ Some (string_bytes o.not_before)
  pub until : value_of (codes "until") lines ≡ Some (string_bytes o.not_after)
  pub serial : option_and_then octets_in (value_of (codes "serial") lines) ≡ Some o.serial.items
  pub key : option_and_then key_in (value_of (codes "key") lines) ≡ Some (key_plain o.key)
  pub path : option_and_then length_in (value_of (codes "path") lines) ≡ o.path_len
  pub dns : values_of (codes "dns") lines ≡ map string_bytes o.dns.items
  pub client : stands (codes "client") lines ≡ o.client_auth
  pub ocsp : stands (codes "ocsp") lines ≡ o.ocsp

-- The orders that their lines describe, one after another.
abbrev pub SayOrders : List (List PlainLine) → List Order → Type 0
SayOrders [] [] = Unit {0}
SayOrders [] (o ∷ os) = ⊥
SayOrders (lines ∷ more) [] = ⊥
SayOrders (lines ∷ more) (o ∷ os) = SayOrder lines o × SayOrders more os

-- The number of the first wrong line of a file.
abbrev pub faulty_line : List ℕ → Option ℕ
faulty_line octets = first_fault (by_order (lines_in octets))

-- No line of the file is wrong, and these are its orders.
pub record SaysOrders (octets : List ℕ) (orders : List Order) : Type 0 where
  pub sound : faulty_line octets ≡ None
  pub said : SayOrders (by_order (lines_in octets)) orders
