-- The orders that are accepted.
use Rattle.std.specs.Prelude.{◌≡◌, ℕ, ◌≤◌, ◌<◌, List, length, Bool, true, IfSome, Option, Some, Ok}
use Rattle.std.specs.Prelude.{slice_get, string_bytes}
use Rattle.std.specs.Bool.{⊤}
use Rattle.std.specs.List.{list_all}
use Rattle.cert_desk_listing.specs.Oid.Bound.{Bound}
use Rattle.cert_desk_listing.specs.Der.Dates.{Civil, is_civil}
use Rattle.cert_desk_listing.specs.Der.Grammar.{plain_list}
use Rattle.cert_desk_orders.specs.Types.DateTexts.{date_text}
use Rattle.cert_desk_orders.specs.Types.Seconds.{unix_seconds}
use Rattle.x509_cert_builders.specs.Naming.{NamesAuthority}
use Rattle.x509_cert_builders.specs.Subscribers.{may_stay}
use Rattle.cert_desk_listing.specs.CertNames.Names.{PlainName}
use Rattle.cert_desk_orders.specs.CertParts.Grammar.{PublicKey, civil_of, PlainValidity, not_after}
use Rattle.cert_desk_orders.specs.CertParts.Grammar.{not_before}
use Rattle.cert_desk_orders.specs.CertParts.Views.{key_plain}
use Rattle.cert_desk_orders.specs.CertParts.Times.{time_of}
use Rattle.cert_desk_listing.specs.CertNames.PlainTexts.{SpellsName}
use Rattle.cert_desk_orders.specs.CertParts.SerialNumbers.{new_serial}
use Rattle.cert_desk_orders.specs.declared.order.Order.{Order}
use Rattle.cert_desk.specs.declared.role.Role.{Role}
use Rattle.cert_desk.specs.declared.role.Role.TheVariants as roles
use Rattle.cert_desk.specs.PlainOrders.{IsRight, PlainOrder}
use Rattle.cert_desk.specs.Roles.{role_at, signers_for}

-- The name of a subscriber has only countries and common names (CA/Browser Forum, Baseline
-- Requirements 7.1.2.7.2).
abbrev pub names_subscriber : PlainName → Bool
names_subscriber n = list_all (λ r. list_all may_stay r) n

-- The name is allowed for the certificate of a role.
abbrev pub IsNamedFor : Role → PlainName → Type 0
IsNamedFor roles.Root n = NamesAuthority {X = Unit {0}} n (Ok tt)
IsNamedFor roles.Subordinate n = ⊤
IsNamedFor roles.Subscriber n = names_subscriber n ≡ true

-- The text is that of a date.
abbrev pub IsTextOf : List ℕ → Civil → Type 0
IsTextOf text c = (is_civil c ≡ true) × (text ≡ date_text c)

-- The texts are those of two dates in order, in the forms of RFC 5280 4.1.2.5.
pub record SpellDates (before after : List ℕ) (v : PlainValidity) : Type 0 where
  pub first : IsTextOf before (civil_of (not_before v))
  pub last : IsTextOf after (civil_of (not_after v))
  pub spelled : v ≡ (time_of (civil_of (not_before v)), (time_of (civil_of (not_after v)), tt))
  pub in_order : unix_seconds (civil_of (not_before v)) ≤ unix_seconds (civil_of (not_after v))

-- The order is accepted in this role, with this key of its signer, if it has one, and asks for
-- these values.
pub record IsAccepted (role : Role) (signer_key : Option PublicKey) (o : Order)
    (p : PlainOrder) : Type 0 where
  pub name : SpellsName Bound (string_bytes o.name) p.subject
  pub naming : IsNamedFor role p.subject
  pub serial : new_serial o.serial.items ≡ Ok p.serial
  pub dates : SpellDates (string_bytes o.not_before) (string_bytes o.not_after) p.validity
  pub right : IsRight role p
  pub key : IfSome signer_key (λ k. k ≡ p.key)
  -- The values that need no parsing.
  pub key_is : p.key ≡ key_plain o.key
  pub path_is : p.path ≡ o.path_len
  pub dns_is : p.dns ≡ plain_list string_bytes o.dns.items
  pub clients_is : p.clients ≡ o.client_auth
  pub answers_is : p.answers ≡ o.ocsp

-- The order at an index is accepted.
pub record IsAcceptedAt (orders : List Order) (keys : List PublicKey) (place : ℕ)
    (p : PlainOrder) : Type 0 where
  pub order : Order
  pub stands : slice_get orders place ≡ Some order
  pub accepted : IsAccepted (role_at (length orders) place) (slice_get keys place) order p

-- The first orders are accepted, and ask for these values.
pub record AcceptsFront (orders : List Order) (keys : List PublicKey) (ps : List PlainOrder) : Type
    0 where
  pub each : (place : ℕ) (p : PlainOrder) → slice_get ps place ≡ Some p
      → IsAcceptedAt orders keys place p

-- All orders are accepted, with signers that have these keys, and ask for these values.
pub record AcceptedOrders (orders : List Order) (keys : List PublicKey)
    (ps : List PlainOrder) : Type 0 where
  pub some : 0 < length orders
  pub signers : length keys ≡ signers_for (length orders)
  pub all : length ps ≡ length orders
  pub front : AcceptsFront orders keys ps
