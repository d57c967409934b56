-- The reasons why no chain is issued, in their order. If a reason applies to an order, the orders
-- before it are accepted, and it meets the conditions before that reason.
use Rattle.std.specs.Prelude.{◌≡◌, ◌≢◌, ◌⊎◌, ℕ, ℤ, ◌<◌, List, [], length, map, true, false, Option}
use Rattle.std.specs.Prelude.{Some, None, Ok, Err, slice_get, string_bytes, IsSomeAnd}
use Rattle.std.specs.Bool.{⊤}
use Rattle.cert_desk_listing.specs.Oid.Bound.{Bound}
use Rattle.cert_desk_listing.specs.Der.BitStrings.{Bits, IsBits}
use Rattle.cert_desk_listing.specs.Der.Dates.{Civil, is_civil}
use Rattle.cert_desk_listing.specs.Der.Grammar.{plain_list}
use Rattle.cert_desk_listing.specs.Der.ErrorTypes.ErrorKind.{ErrorKind}
use Rattle.cert_desk_listing.specs.Der.ErrorTypes.ErrorKind.TheVariants as kinds
use Rattle.cert_desk_listing.specs.Der.Shapes.{IsValid}
use Rattle.cert_desk_orders.specs.Types.DateTexts.{date_text}
use Rattle.cert_desk_orders.specs.Types.Seconds.{unix_seconds}
use Rattle.x509_cert_builders.specs.Naming.{NamesAuthority}
use Rattle.x509_cert_builders.specs.Refusals.{IsWantOfMemory}
use Rattle.x509_cert_builders.specs.declared.build_error.Error.{Error as BuilderError}
use Rattle.x509_cert_builders.specs.declared.build_error.Error.TheVariants as builders
use Rattle.x509_cert_builders.specs.declared.sign_error.SignError.TheVariants
    as signers
use Rattle.cert_desk_listing.specs.CertCertificates.Certificates.{PlainCertificate, Tbs}
use Rattle.cert_desk_listing.specs.CertCertificates.Certificates.{certificate}
use Rattle.cert_desk_listing.specs.CertCertificates.Certificates.{tbs_certificate}
use Rattle.cert_desk_orders.specs.CertParts.Grammar.{Algorithm, PublicKey, PlainValidity}
use Rattle.cert_desk_listing.specs.CertNames.Names.{PlainName}
use Rattle.cert_desk_orders.specs.CertParts.Views.{key_plain}
use Rattle.cert_desk_listing.specs.CertNames.NameTexts.{ReadsName}
use Rattle.cert_desk_listing.specs.CertNames.PlainTexts.{SpellsName}
use Rattle.cert_desk_orders.specs.CertParts.SerialNumbers.{new_serial}
use Rattle.cert_desk_orders.specs.declared.order.Order.{Order}
use Rattle.cert_desk.specs.declared.fault.Fault.{Fault}
use Rattle.cert_desk.specs.declared.fault.Fault.TheVariants as faults
use Rattle.cert_desk.specs.declared.issue_error.IssueError.{IssueError}
use Rattle.cert_desk.specs.declared.issue_error.IssueError.TheVariants as errors
use Rattle.cert_desk.specs.declared.role.Role.{Role}
use Rattle.cert_desk.specs.declared.role.Role.TheVariants as roles
use Rattle.cert_desk.specs.declared.stop.Stop.{Stop}
use Rattle.cert_desk.specs.declared.stop.Stop.TheVariants as stops
use Rattle.cert_desk.specs.Acceptance.{AcceptedOrders, AcceptsFront, IsNamedFor, IsTextOf}
use Rattle.cert_desk.specs.Acceptance.{SpellDates, names_subscriber}
use Rattle.cert_desk.specs.Chains.{AreMade}
use Rattle.cert_desk.specs.Ordered.{CanName, ordered_part, part_octets}
use Rattle.cert_desk.specs.PlainOrders.{HasNamesFor, PlainOrder}
use Rattle.cert_desk.specs.Roles.{place_above, role_at, signers_for}

-- The text is a name that is allowed for the role. The conditions on an order are checked in this
-- order: its name, its serial number, its dates, its DNS names, and the signer's key.
abbrev pub HasName : Role → Order → Type 0
HasName role o = (n : PlainName) × SpellsName Bound (string_bytes o.name) n × IsNamedFor role n

-- The bytes are accepted as a serial number (RFC 5280 4.1.2.2).
abbrev pub HasSerial : Order → Type 0
HasSerial o = (z : ℤ) × (new_serial o.serial.items ≡ Ok z)

-- The texts are two dates in order.
abbrev pub HasDates : Order → Type 0
HasDates o = (v : PlainValidity) × SpellDates (string_bytes o.not_before) (string_bytes o.not_after)
    v

-- The DNS names are allowed for the certificate of a role.
abbrev pub HasNames : Role → Order → Type 0
HasNames role o = HasNamesFor role (plain_list string_bytes o.dns.items)

-- The text isn't a date.
abbrev pub IsNoDate : List ℕ → Type 0
IsNoDate text = (c : Civil) → is_civil c ≡ true → text ≢ date_text c

-- One of the texts isn't a date, or the second date is before the first.
abbrev pub HasFaultyDates : Order → Type 0
HasFaultyDates o =
    IsNoDate (string_bytes o.not_before) ⊎ IsNoDate (string_bytes o.not_after)
    ⊎ ((before : Civil) × (after : Civil) × IsTextOf (string_bytes o.not_before) before
    × IsTextOf (string_bytes o.not_after) after
    × (unix_seconds after < unix_seconds before))

-- The reason why a name isn't allowed for the certificate of a role.
abbrev pub RefusesName : Role → PlainName → Fault → Type 0
RefusesName role n (faults.RootName e) = (role ≡ roles.Root)
    × NamesAuthority {X = Unit {0}} n (Err e) × (IsWantOfMemory e → ⊥)
RefusesName role n faults.SubscriberName = (role ≡ roles.Subscriber) × (names_subscriber n ≡ false)
RefusesName role n faults.OutOfMemory = ⊤
RefusesName role n _ = ⊥

module _ (role : Role) (key : Option PublicKey) (o : Order) where
  -- The reason why an order is rejected in a role, with this key of its signer. The conditions
  -- before are met.
  abbrev pub RefusesOrder : Fault → Type 0
  RefusesOrder faults.Name = (e : ErrorKind) × ReadsName Bound (string_bytes o.name) (Err e)
  RefusesOrder (faults.RootName e) = (n : PlainName) × SpellsName Bound (string_bytes o.name) n
      × RefusesName role n (faults.RootName e)
  RefusesOrder faults.SubscriberName = (n : PlainName) × SpellsName Bound (string_bytes o.name) n
      × RefusesName role n faults.SubscriberName
  RefusesOrder faults.Serial = HasName role o
      × ((e : ErrorKind) × (new_serial o.serial.items ≡ Err e))
  RefusesOrder faults.Dates = HasName role o × HasSerial o × HasFaultyDates o
  RefusesOrder faults.DnsName = HasName role o × HasSerial o × HasDates o × (HasNames role o → ⊥)
  RefusesOrder faults.KeyMismatch = HasName role o × HasSerial o × HasDates o × HasNames role o
      × IsSomeAnd key (λ k. k ≢ key_plain o.key)
  RefusesOrder faults.OutOfMemory = ⊤

-- The order at an index is rejected.
pub record IsRefusedAt (orders : List Order) (keys : List PublicKey) (place : ℕ) (f : Fault) : Type
    0 where
  pub order : Order
  pub stands : slice_get orders place ≡ Some order
  pub refused : RefusesOrder (role_at (length orders) place) (slice_get keys place) order f

-- The order at an index is rejected, and the orders before it are accepted.
pub record RefusesAt (orders : List Order) (keys : List PublicKey) (place : ℕ) (f : Fault) : Type 0
  where
    pub asked : List PlainOrder
    pub before : AcceptsFront orders keys asked
    pub here : length asked ≡ place
    pub refused : IsRefusedAt orders keys place f

-- An error of the encoder as a reason why a certificate isn't built.
abbrev pub stop_of_kind : ErrorKind → Stop
stop_of_kind kinds.OutOfMemory = stops.OutOfMemory
stop_of_kind _ = stops.TooLong

-- An error of the builder as a reason why a certificate isn't built.
abbrev pub stop_of : BuilderError → Stop
stop_of (builders.Asn1 e) = stop_of_kind e.kind
stop_of (builders.Signature signers.Refused) = stops.Refused
stop_of (builders.Signature signers.OutOfMemory) = stops.OutOfMemory
stop_of _ = stops.TooLong

-- A subscriber's names and the TBSCertificate have encodings.
abbrev pub HasPart : Role → List (List ℕ) → Tbs → Type 0
HasPart role dns t = CanName role dns × IsValid (tbs_certificate Bound None) t

-- The signer may return a signature with which the certificate has no encoding.
abbrev pub MayBeTooLong : (List ℕ → Bits → Type 0) → Algorithm → Tbs → Type 0
MayBeTooLong signs a t = (bits : Bits) × IsBits bits × signs (part_octets t) bits
    × (IsValid (certificate Bound None) (t, (a, (bits, tt))) → ⊥)

-- The reason why a certificate isn't built. It is `TooLong` if a length exceeds 2^32 - 1.
abbrev pub Stops : (List ℕ → Type 0) → (List ℕ → Bits → Type 0) → Algorithm → Role → List (List ℕ)
    → Tbs → Stop → Type 0
Stops may_refuse signs a role dns t stops.Refused = may_refuse (part_octets t)
Stops may_refuse signs a role dns t stops.TooLong = (HasPart role dns t → ⊥)
    ⊎ MayBeTooLong signs a t
Stops may_refuse signs a role dns t stops.OutOfMemory = ⊤

-- `P` holds for the order at an index, its role, its signer, and the TBSCertificate that is ordered
-- there below the order above.
pub record HoldsAt {S : Type 0} (algorithm : S → Algorithm)
    (P : S → Role → PlainOrder → Tbs → Type 0) (asked : List PlainOrder) (signers : List S)
    (place : ℕ) : Type 0 where
  pub order : PlainOrder
  pub above : PlainOrder
  pub signer : S
  pub order_is : slice_get asked place ≡ Some order
  pub above_is : slice_get asked (place_above place) ≡ Some above
  pub signer_is : slice_get signers (place_above place) ≡ Some signer
  pub holds : P signer (role_at (length asked) place) order
      (ordered_part (role_at (length asked) place) order above (algorithm signer))

-- No certificate is built at an index.
abbrev pub IsStoppedAt : {S : Type 0} → (S → Algorithm) → (S → List ℕ → Bits → Type 0)
    → (S → List ℕ → Type 0) → List PlainOrder → List S → ℕ → Stop → Type 0
IsStoppedAt algorithm signs may_refuse asked signers place stop =
    HoldsAt algorithm
    (λ s role p t. Stops (may_refuse s) (signs s) (algorithm s) role p.dns t stop) asked signers
    place

-- The error that reports a rejected order at an index.
abbrev pub fault_at : ℕ → Fault → IssueError
fault_at place faults.Name = errors.Name place
fault_at place (faults.RootName e) = errors.RootName place e
fault_at place faults.SubscriberName = errors.SubscriberName place
fault_at place faults.Serial = errors.Serial place
fault_at place faults.Dates = errors.Dates place
fault_at place faults.DnsName = errors.DnsName place
fault_at place faults.KeyMismatch = errors.KeyMismatch place
fault_at place faults.OutOfMemory = errors.OutOfMemory

-- The error that reports that no certificate is built at an index.
abbrev pub stop_at : ℕ → Stop → IssueError
stop_at place stops.Refused = errors.Signer place
stop_at place stops.TooLong = errors.TooLong place
stop_at place stops.OutOfMemory = errors.OutOfMemory

module _ {S : Type 0} (key : S → PublicKey) (algorithm : S → Algorithm)
    (signs : S → List ℕ → Bits → Type 0) (may_refuse : S → List ℕ → Type 0) (orders : List Order)
    (signers : List S) where
  -- The number of signers is right, and one of the orders is rejected.
  abbrev pub Faults : ℕ → Fault → Type 0
  Faults place f = (length signers ≡ signers_for (length orders))
      × RefusesAt orders (map key signers) place f

  -- All orders are accepted, the certificates before an index are built and signed, and none is
  -- built at this index.
  pub record StopsAt (place : ℕ) (stop : Stop) : Type 0 where
    pub asked : List PlainOrder
    pub accepted : AcceptedOrders orders (map key signers) asked
    pub before : List PlainCertificate
    pub here : length before ≡ place
    pub made : AreMade algorithm signs asked signers before
    pub stopped : IsStoppedAt algorithm signs may_refuse asked signers place stop

  -- The reason why no chain is issued.
  abbrev pub Refuses : IssueError → Type 0
  Refuses errors.NoOrders = orders ≡ []
  Refuses errors.SignerCount = (0 < length orders) × (length signers ≢ signers_for (length orders))
  Refuses (errors.Name place) = Faults place faults.Name
  Refuses (errors.RootName place e) = Faults place (faults.RootName e)
  Refuses (errors.SubscriberName place) = Faults place faults.SubscriberName
  Refuses (errors.Serial place) = Faults place faults.Serial
  Refuses (errors.Dates place) = Faults place faults.Dates
  Refuses (errors.DnsName place) = Faults place faults.DnsName
  Refuses (errors.KeyMismatch place) = Faults place faults.KeyMismatch
  Refuses (errors.Signer place) = StopsAt place stops.Refused
  Refuses (errors.TooLong place) = StopsAt place stops.TooLong
  Refuses errors.OutOfMemory = ⊤
