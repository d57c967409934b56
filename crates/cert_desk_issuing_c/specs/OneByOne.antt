-- Certificates that are issued from one orders file, one at a time.
use Rattle.std.specs.Prelude.{◌≡◌, ℕ, ◌<◌, ◌^◌, List, flat_map, length, Some, slice_get}
use Rattle.x509_cert_builders.specs.CertCertificates.Certificates.{PlainCertificate}
use Rattle.cert_desk_orders.specs.declared.order.Order.{Order}
use Rattle.cert_desk_orders.specs.OrdersFile.{SaysOrders}
use Rattle.cert_desk.specs.Acceptance.{AcceptedOrders}
use Rattle.cert_desk.specs.Chains.{HoldsOrders}
use Rattle.cert_desk.specs.PlainOrders.{PlainOrder}
use Rattle.cert_desk.specs.Runs.{signing_keys}
use Rattle.cert_desk_issuing_c.specs.Signing.{IsIssued}

-- The concatenation of several byte strings.
abbrev pub joined : List (List ℕ) → List ℕ
joined pieces = flat_map (λ octets. octets) pieces

-- Suppose that there are as many byte strings as orders, and each is the certificate issued at its
-- index, with any algorithm and signature. Then their concatenation is one chain, which fulfils the
-- orders.
abbrev pub IssuedAreOneChain : Type 0
IssuedAreOneChain =
    (orders : List ℕ) (said : List Order) (asked : List PlainOrder) (pieces : List (List ℕ))
    → SaysOrders orders said → AcceptedOrders said (signing_keys said) asked
    → length pieces ≡ length said → length (joined pieces) < 2 ^ 64
    → ((place : ℕ) (octets : List ℕ) → slice_get pieces place ≡ Some octets
    → (algorithm : List ℕ) × (signature : List ℕ)
    × IsIssued orders place algorithm signature octets)
    → (cs : List PlainCertificate) × HoldsOrders asked cs (joined pieces)
