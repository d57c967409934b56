-- Why an orders file is wrong, or an order is rejected. The reason is one line and ends with LF.
use Rattle.std.specs.Prelude.{◌≡◌, ℕ, ◌⊎◌, List, ◌++◌, codes, decimal, IfSome, Option, Some, None}
use Rattle.std.specs.Option.{option_and_then, option_map, option_or}
use Rattle.cert_desk_listing.specs.Der.Dates.{Civil}
use Rattle.cert_desk_orders.specs.Reasons.{line_at, reason_line, wrong_line}
use Rattle.x509_cert_builders.specs.declared.build_error.Error.{Error}
use Rattle.x509_cert_builders.specs.declared.build_error.Error.TheVariants as builders
use Rattle.cert_desk.specs.Acceptance.{IsTextOf}
use Rattle.cert_desk.specs.Refusals.{IsNoDate}
use Rattle.cert_desk.specs.declared.issue_error.IssueError.{IssueError}
use Rattle.cert_desk.specs.declared.issue_error.IssueError.TheVariants as errors
use Rattle.cert_desk.specs.declared.outcome.Outcome.{Outcome}
use Rattle.cert_desk.specs.declared.outcome.Outcome.TheVariants as outcomes

-- What is wrong with an orders file.
abbrev pub wrong_reason : List ℕ → Option (List ℕ)
wrong_reason octets = option_map reason_line (wrong_line octets)

-- The line about the word of a line of the order at an index.
abbrev pub order_reason : ℕ → ℕ → List ℕ → List ℕ → List ℕ
order_reason place number word reason =
    codes "order " ++ decimal place ++ codes " line " ++ decimal number ++ codes " " ++ word
    ++ codes ": " ++ reason ++ codes "\n"

-- The reason for the first line with a word, in the order at an index.
abbrev pub reason_at : List ℕ → ℕ → List ℕ → List ℕ → Option (List ℕ)
reason_at octets place word reason =
    option_map (λ line. order_reason place line.number word reason)
    (line_at octets place word)

-- The value of a word in the order at an index.
abbrev pub value_at : List ℕ → ℕ → List ℕ → Option (List ℕ)
value_at octets place word = option_and_then (λ line. line.value) (line_at octets place word)

-- Why a name isn't allowed for a root.
abbrev pub root_reason : Error → List ℕ
root_reason builders.NonUniqueRdn = codes "an RDN must have one attribute"
root_reason builders.NonUniqueATV = codes "an attribute occurs twice"
root_reason (builders.InvalidAttribute oid) =
    codes "an attribute isn't allowed, or not in this order"
root_reason builders.MissingAttributes = codes "C, O or CN is missing"
root_reason _ = codes "not allowed for a root"

-- The value of a word, if the order has the word, is a date.
abbrev pub HasDateAt : List ℕ → ℕ → List ℕ → Type 0
HasDateAt octets place word =
    IfSome (value_at octets place word) (λ text. (c : Civil) × IsTextOf text c)

-- The value of a word, if the order has the word, isn't a date.
abbrev pub HasNoDateAt : List ℕ → ℕ → List ℕ → Type 0
HasNoDateAt octets place word = IfSome (value_at octets place word) (λ text. IsNoDate text)

-- The reason for the dates of an order that is rejected for them: one of them isn't a date, or both
-- are, and so the second is before the first.
abbrev pub SaysDates : List ℕ → ℕ → Option (List ℕ) → Type 0
SaysDates octets place text =
    (HasNoDateAt octets place (codes "from")
    × (text ≡ reason_at octets place (codes "from") (codes "not a date")))
    ⊎ (HasNoDateAt octets place (codes "until")
    × (text ≡ reason_at octets place (codes "until") (codes "not a date")))
    ⊎ (HasDateAt octets place (codes "from") × HasDateAt octets place (codes "until")
    × (text ≡ reason_at octets place (codes "until") (codes "before from")))

-- The reason for the DNS names of an order that is rejected for them: there are none, or one isn't
-- ASCII.
abbrev pub names_reason : List ℕ → ℕ → Option (List ℕ)
names_reason octets place =
    option_or (reason_at octets place (codes "dns") (codes "not ASCII"))
    (reason_at octets place (codes "order") (codes "no line \"dns\""))

-- The reason why the orders of a file are rejected with this error, if there is more to say.
abbrev pub SaysRefusal : List ℕ → IssueError → Option (List ℕ) → Type 0
SaysRefusal octets errors.NoOrders text = text ≡ Some (codes "orders: no line \"order\"\n")
SaysRefusal octets (errors.Name place) text =
    text ≡ reason_at octets place (codes "name") (codes "not a name")
SaysRefusal octets (errors.RootName place error) text =
    text ≡ reason_at octets place (codes "name") (root_reason error)
SaysRefusal octets (errors.SubscriberName place) text =
    text ≡ reason_at octets place (codes "name") (codes "only C and CN are allowed")
SaysRefusal octets (errors.Serial place) text =
    text ≡ reason_at octets place (codes "serial") (codes "not 1 to 20 bytes in DER")
SaysRefusal octets (errors.Dates place) text = SaysDates octets place text
SaysRefusal octets (errors.DnsName place) text = text ≡ names_reason octets place
SaysRefusal octets _ text = text ≡ None

-- The reason for the outcome of a run on an orders file, if there is more to say.
abbrev pub SaysReason : List ℕ → Outcome → Option (List ℕ) → Type 0
SaysReason octets (outcomes.BadLine line) text = text ≡ wrong_reason octets
SaysReason octets (outcomes.Refused error) text = SaysRefusal octets error text
SaysReason octets _ text = text ≡ None
