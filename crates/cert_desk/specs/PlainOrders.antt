-- The values that orders ask for.
use Rattle.std.specs.Prelude.{◌≡◌, ℕ, ℤ, ◌<◌, ◌≤◌, ◌^◌, List, length, Bool, true, Option, Some, Ok}
use Rattle.std.specs.Prelude.{IfSome, nat_lt, slice_get, string_bytes}
use Rattle.std.specs.Bool.{⊤}
use Rattle.std.specs.List.{list_all}
use Rattle.cert_desk_listing.specs.Der.Dates.{Civil}
use Rattle.cert_desk_listing.specs.Der.Grammar.{plain_list}
use Rattle.cert_desk_listing.specs.Der.Integers.{integer_octets}
use Rattle.x509_cert_builders.specs.Subscribers.{all_stays}
use Rattle.x509_cert_builders.specs.Naming.{NamesAuthority}
use Rattle.cert_desk_listing.specs.CertNames.Names.{PlainName}
use Rattle.cert_desk_orders.specs.CertParts.Grammar.{PublicKey, civil_of, PlainValidity, not_after}
use Rattle.cert_desk_orders.specs.CertParts.Grammar.{not_before}
use Rattle.cert_desk_orders.specs.CertParts.Views.{key_plain, validity_plain}
use Rattle.cert_desk_listing.specs.CertNames.Views.{name_plain}
use Rattle.cert_desk_orders.specs.CertParts.Times.{time_of}
use Rattle.cert_desk.specs.declared.accepted.Accepted.{Accepted}
use Rattle.cert_desk.specs.declared.role.Role.{Role}
use Rattle.cert_desk.specs.declared.role.Role.TheVariants as roles
use Rattle.cert_desk.specs.Roles.{role_at}

-- The values of an order, after its texts are parsed.
pub record PlainOrder : Type 0 where
  pub subject : PlainName
  pub serial : ℤ
  pub validity : PlainValidity
  pub key : PublicKey
  -- The largest number of CAs between this one and the last certificate.
  pub path : Option ℕ
  pub dns : List (List ℕ)
  pub clients : Bool
  pub answers : Bool

-- The start of the validity period (RFC 5280 4.1.2.5).
abbrev pub begins : PlainOrder → Civil
begins p = civil_of (not_before p.validity)

-- The end of the validity period (RFC 5280 4.1.2.5).
abbrev pub ends : PlainOrder → Civil
ends p = civil_of (not_after p.validity)

-- A subscriber has at least one DNS name, and each is in ASCII.
abbrev pub HasNamesFor : Role → List (List ℕ) → Type 0
HasNamesFor roles.Subscriber names = (0 < length names)
    × (list_all (λ text. list_all (λ o. nat_lt o 128) text) names ≡ true)
HasNamesFor _ names = ⊤

-- The values fit into extensions: the path length is one byte, and the DNS names are allowed.
pub record IsRight (role : Role) (p : PlainOrder) : Type 0 where
  pub short : IfSome p.path (λ n. n < 2 ^ 8)
  pub names : HasNamesFor role p.dns

-- The profile of a role accepts this name.
abbrev pub CanBear : Role → PlainName → Type 0
CanBear roles.Root n = NamesAuthority {X = Unit {0}} n (Ok tt)
CanBear roles.Subordinate n = ⊤
CanBear roles.Subscriber n = all_stays n ≡ true

-- The values fit into a TBSCertificate. Besides the extensions, the name is accepted, the serial
-- number has at most 20 bytes, and the dates are in the forms of RFC 5280 4.1.2.5.
pub record IsReady (role : Role) (p : PlainOrder) : Type 0 where
  pub right : IsRight role p
  pub named : CanBear role p.subject
  pub serial : length (integer_octets p.serial) ≤ 20
  pub spelled : p.validity ≡ (time_of (begins p), (time_of (ends p), tt))

-- Each order fits into a TBSCertificate of the role at its index.
abbrev pub AreReady : List PlainOrder → Type 0
AreReady ps = (place : ℕ) (p : PlainOrder) → slice_get ps place ≡ Some p
    → IsReady (role_at (length ps) place) p

-- The keys of signers are those of the orders at their indexes.
abbrev pub AreKeys : List PublicKey → List PlainOrder → Type 0
AreKeys keys ps = (place : ℕ) (key : PublicKey) (p : PlainOrder) → slice_get keys place ≡ Some key
    → slice_get ps place ≡ Some p → key ≡ p.key

-- An accepted order as its values.
abbrev pub accepted_plain : Accepted → PlainOrder
accepted_plain a = record {
  subject = name_plain a.subject;
  serial = a.serial_number;
  validity = validity_plain a.validity;
  key = key_plain a.order.now.key;
  path = a.order.now.path_len;
  dns = plain_list string_bytes a.order.now.dns.items;
  clients = a.order.now.client_auth;
  answers = a.order.now.ocsp;
}

-- Accepted orders as their values.
abbrev pub orders_plain : List Accepted → List PlainOrder
orders_plain all = plain_list accepted_plain all
