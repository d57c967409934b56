-- The texts that a run of `issue` prints. Each is one line and ends with LF.
use Rattle.std.specs.Prelude.{ℕ, List, ◌++◌, codes, decimal}
use Rattle.cert_desk_listing.specs.DeskIo.Telling.{memory_line}
use Rattle.cert_desk.specs.declared.issue_error.IssueError.{IssueError}
use Rattle.cert_desk.specs.declared.issue_error.IssueError.TheVariants as errors

-- The line on the order at an index, with the reason why it is rejected.
abbrev pub order_line : ℕ → List ℕ → List ℕ
order_line place reason =
    (codes "order " ++ decimal place) ++ (codes " " ++ (reason ++ codes "\n"))

-- The line on all orders, with the reason why they are rejected.
abbrev pub orders_line : List ℕ → List ℕ
orders_line reason = codes "orders " ++ reason ++ codes "\n"

-- The line that reports why no chain is issued.
abbrev pub refusal_line : IssueError → List ℕ
refusal_line errors.NoOrders = orders_line (codes "NoOrders")
refusal_line errors.SignerCount = orders_line (codes "SignerCount")
refusal_line (errors.Name place) = order_line place (codes "Name")
refusal_line (errors.RootName place error) = order_line place (codes "RootName")
refusal_line (errors.SubscriberName place) = order_line place (codes "SubscriberName")
refusal_line (errors.Serial place) = order_line place (codes "Serial")
refusal_line (errors.Dates place) = order_line place (codes "Dates")
refusal_line (errors.DnsName place) = order_line place (codes "DnsName")
refusal_line (errors.KeyMismatch place) = order_line place (codes "KeyMismatch")
refusal_line (errors.Signer place) = order_line place (codes "Signer")
refusal_line (errors.TooLong place) = order_line place (codes "TooLong")
refusal_line errors.OutOfMemory = memory_line

-- The line that reports the first wrong line of a file, counted from 1.
abbrev pub fault_line : ℕ → List ℕ
fault_line line = codes "orders: line " ++ decimal line ++ codes "\n"
