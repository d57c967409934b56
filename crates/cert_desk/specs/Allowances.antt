-- The key purposes that the orders of a chain allow, and path lengths that are large enough.
use Rattle.std.specs.Prelude.{◌≡◌, ℕ, zero, suc, ◌+◌, ◌-◌, ◌≤◌, List, [], ◌∷◌, length, Bool, true}
use Rattle.std.specs.Prelude.{not, Option, Some, None, ◌==◌, ◌&&◌, ◌||◌, if◌then◌else◌, slice_get}
use Rattle.std.specs.List.{list_all}
use Rattle.std.specs.Option.{option_map_or}
use Rattle.cert_desk_listing.specs.Oid.Bound.{Bound}
use Rattle.cert_desk_listing.specs.Oid.Comparing.{owned_eq}
use Rattle.cert_desk_orders.specs.Types.Seconds.{unix_seconds}
use Rattle.x509_cert_builders.specs.Profiles.{id_kp}
use Rattle.cert_desk_listing.specs.CertNames.Names.{PlainName}
use Rattle.cert_desk_checking.specs.DeskRules.Paths.{is_within, same_name}
use Rattle.cert_desk.specs.declared.role.Role.{Role}
use Rattle.cert_desk.specs.declared.role.Role.TheVariants as roles
use Rattle.cert_desk.specs.PlainOrders.{PlainOrder, begins, ends}
use Rattle.cert_desk.specs.Roles.{place_above, role_at}

-- The order allows serverAuth, and clientAuth if it says so (RFC 5280 4.2.1.12).
abbrev pub allows_one : List ℕ → PlainOrder → Bool
allows_one purpose p = owned_eq (id_kp 1) purpose || (p.clients && owned_eq (id_kp 2) purpose)

-- Each order but the root's allows the key purpose.
abbrev pub allows : List ℕ → List PlainOrder → Bool
allows purpose [] = true
allows purpose (root ∷ below) = list_all (allows_one purpose) below

-- The validation time is within the validity period of each order (RFC 5280 4.1.2.5).
abbrev pub AreLasting : ℕ → List PlainOrder → Type 0
AreLasting moment ps = (place : ℕ) (p : PlainOrder) → slice_get ps place ≡ Some p
    → (unix_seconds (begins p) ≤ moment) × (moment ≤ unix_seconds (ends p))

-- The subject of the order at an index, or the empty name.
abbrev pub subject_at : List PlainOrder → ℕ → PlainName
subject_at ps place = option_map_or (λ p. p.subject) (slice_get ps place) []

-- An index counts for path lengths: it isn't the last, and its subject differs from that of the
-- order before (RFC 5280 4.2.1.9).
abbrev pub counts_order : List PlainOrder → ℕ → Bool
counts_order ps place = not ((place + 1) == length ps)
    && not (same_name Bound (subject_at ps (place_above place)) (subject_at ps place))

-- The number of those of the n indexes from this one on that count.
abbrev pub counted_orders : List PlainOrder → ℕ → ℕ → ℕ
counted_orders ps from zero = 0
counted_orders ps from (suc n) =
    counted_orders ps from n + (if counts_order ps (from + n) then 1 else 0)

-- The path length of an order between the first and the last.
abbrev pub path_in : Role → PlainOrder → Option ℕ
path_in roles.Root p = None
path_in roles.Subordinate p = p.path
path_in roles.Subscriber p = None

-- The number of indexes after an order that count is within its path length (RFC 5280 6.1.4 (l),
-- (m)).
abbrev pub suffices_at : List PlainOrder → ℕ → PlainOrder → Bool
suffices_at ps place p = is_within (counted_orders ps (place + 1) (length ps - (place + 1)))
    (path_in (role_at (length ps) place) p)

-- The path length of each order is large enough (RFC 5280 6.1.4 (l), (m)).
abbrev pub Suffices : List PlainOrder → Type 0
Suffices ps = (place : ℕ) (p : PlainOrder) → slice_get ps place ≡ Some p → suffices_at ps place p
    ≡ true
