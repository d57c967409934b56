-- The outcome for an orders file that was read to its end.
use Rattle.std.proofs.Common.{◌≡◌, ℕ, List, inl, subst}
use Rattle.cert_desk_listing.specs.DeskIo.Devices.{Device}
use Rattle.cert_desk_listing.specs.DeskIo.Whole.{IsWhole, most_octets}
use Rattle.cert_desk_orders.specs.OrdersFile.{SaysOrders}
use Rattle.cert_desk_orders.specs.declared.order.Order.{Order}
use Rattle.cert_desk.specs.declared.outcome.Outcome.{Outcome}
use Rattle.cert_desk.specs.declared.outcome.Outcome.TheVariants as outcomes
use Rattle.cert_desk.specs.Runs.{FileBecomes, OctetsBecome, OrdersBecome}

become : (octets : List ℕ) (orders : List Order) (outcome : Outcome) → SaysOrders octets orders → OrdersBecome orders outcome → OctetsBecome octets outcome
become octets orders (outcomes.Issued issued) says h = (orders, says, h)
become octets orders (outcomes.Refused error) says h = (orders, says, h)
become octets orders (outcomes.BadLine line) says h = absurd h
become octets orders outcomes.Device says h = absurd h
become octets orders outcomes.OutOfMemory says h = tt

-- The bytes give orders.
pub OctetsBecome-said : (octets : List ℕ) (orders lent : List Order) (outcome : Outcome) → SaysOrders octets orders → lent ≡ orders → OrdersBecome lent outcome → OctetsBecome octets outcome
OctetsBecome-said octets orders lent outcome says e h = become octets orders outcome says (subst (λ os. OrdersBecome os outcome) e h)

whole_becomes : (input : Device) (octets : List ℕ) (outcome : Outcome) → IsWhole input most_octets octets → OctetsBecome octets outcome → FileBecomes input outcome
whole_becomes input octets (outcomes.Issued issued) whole h = (octets, whole, h)
whole_becomes input octets (outcomes.Refused error) whole h = (octets, whole, h)
whole_becomes input octets (outcomes.BadLine line) whole h = inl (octets, whole, h)
whole_becomes input octets outcomes.Device whole h = absurd h
whole_becomes input octets outcomes.OutOfMemory whole h = inl (octets, whole)

-- The file was read to its end.
pub FileBecomes-whole : (input : Device) (octets taken : List ℕ) (outcome : Outcome) → IsWhole input most_octets octets → taken ≡ octets → OctetsBecome taken outcome
    → FileBecomes input outcome
FileBecomes-whole input octets taken outcome whole e h = whole_becomes input octets outcome whole (subst (λ o. OctetsBecome o outcome) e h)
