-- Orders are accepted one after another, up to the first that is rejected.
use Rattle.std.proofs.Common.{◌≡◌, ℕ, ℤ, zero, suc, ◌+◌, ◌<◌, ◌≤◌, List, [], ◌∷◌, ◌++◌, length, map, Bool, true, false, Option, Some, Ok, Err, Result, refl, sym, ap, ◌∙◌, subst, arith, inl, inr, slice_get, length-append}
use Rattle.std.specs.Prelude.{IfSome}
use Rattle.std.proofs.Math.Dec.{eqb-suc-zero}
use Rattle.std.proofs.lemmas.Bool.{cases_lt, le-ltb, lt-ltb, ltb-false, and_parts}
use Rattle.std.proofs.lemmas.List.{length-map}
use Rattle.std.proofs.lemmas.Option.{same_Some, slice_get-map}
use Rattle.std.specs.List.{AllByRecursion, list_all}
use Rattle.std.specs.Prelude.{◌≢◌, pos, nat_lt, option_map, IfOk, IfErr, string_bytes, if◌then◌else◌, ◌&&◌, not}
use Rattle.cert_desk_listing.specs.Oid.Bound.{Bound}
use Rattle.cert_desk_listing.specs.Der.BitStrings.{Bits}
use Rattle.cert_desk_listing.specs.Der.Grammar.{plain_list}
use Rattle.cert_desk_listing.specs.Der.Integers.{integer_octets}
use Rattle.cert_desk_listing.specs.Der.Octets.{◌>>=◌}
use Rattle.cert_desk_listing.specs.Der.ErrorTypes.ErrorKind.{ErrorKind}
use Rattle.x509_cert_builders.specs.Subscribers.{may_stay, all_stays, stays}
use Rattle.cert_desk_orders.specs.CertParts.Grammar.{Algorithm, PublicKey}
use Rattle.cert_desk_listing.specs.CertNames.Names.{PlainName}
use Rattle.cert_desk_listing.specs.CertNames.Pairs.{relative_plain}
use Rattle.cert_desk_listing.specs.CertNames.declared.attribute_type_and_value.AttributeTypeAndValue.{AttributeTypeAndValue}
use Rattle.cert_desk_listing.specs.CertNames.PlainTexts.{SpellsName}
use Rattle.cert_desk_orders.specs.CertParts.SerialNumbers.{new_serial}
use Rattle.cert_desk_orders.specs.declared.order.Order.{Order}
use Rattle.cert_desk_listing.proofs.CertNames.OneName.{HasSome, read_some}
use Rattle.cert_desk_orders.proofs.Types.AscendingSteps.{length_plain_list}
use Rattle.cert_desk.specs.Acceptance.{AcceptedOrders, AcceptsFront, IsAccepted, IsAcceptedAt, IsNamedFor, names_subscriber}
use Rattle.cert_desk.specs.PlainOrders.{AreKeys, AreReady, IsReady, PlainOrder, accepted_plain, orders_plain, CanBear}
use Rattle.cert_desk.specs.Refusals.{IsRefusedAt, Refuses, RefusesAt, RefusesOrder, fault_at}
use Rattle.cert_desk.specs.Roles.{place_above, role_at, signers_for}
use Rattle.cert_desk.specs.declared.accepted.Accepted.{Accepted}
use Rattle.cert_desk.specs.declared.fault.Fault.{Fault}
use Rattle.cert_desk.specs.declared.role.Role.{Role}
use Rattle.cert_desk_listing.specs.Der.ErrorTypes.ErrorKind.TheVariants as kinds
use Rattle.cert_desk_listing.proofs.Der.Results.{plain-append}
use Rattle.cert_desk.specs.declared.fault.Fault.TheVariants as faults
use Rattle.cert_desk.specs.declared.role.Role.TheVariants as roles

-- The profile of a subscriber keeps the whole of this name.
stays_if : (r : List AttributeTypeAndValue) → HasSome r → list_all may_stay (relative_plain r) ≡ true → stays (relative_plain r) ≡ true
stays_if [] some e = absurd (omega (arith, some))
stays_if (a ∷ r) some e = ap (λ b. not b && list_all may_stay (relative_plain (a ∷ r))) (eqb-suc-zero (length (relative_plain r))) ∙ e

all_stay : (n : List (List AttributeTypeAndValue)) → AllByRecursion HasSome n → names_subscriber (plain_list relative_plain n) ≡ true → all_stays (plain_list relative_plain n) ≡ true
all_stay [] h e = refl
all_stay (r ∷ n) h e =
    let first = and_parts (list_all may_stay (relative_plain r)) (names_subscriber (plain_list relative_plain n)) e in
    ap (λ b. b && all_stays (plain_list relative_plain n)) (stays_if r h.0 first.0) ∙ all_stay n h.1 first.1

can_bear : (role : Role) (text : List ℕ) (n : PlainName) → SpellsName Bound text n → IsNamedFor role n → CanBear role n
can_bear roles.Root text n s h = h
can_bear roles.Subordinate text n s h = tt
can_bear roles.Subscriber text n s h =
    let right : names_subscriber (plain_list relative_plain s.0) ≡ true = subst (λ (m : PlainName). names_subscriber m ≡ true) s.2 h in
    subst (λ (m : PlainName). all_stays m ≡ true) (sym s.2) (all_stay s.0 (read_some text s.0 s.1) right)

-- Lists and their plain values.
pub plain_at : {A B : Type 0} (f : A → B) (xs : List A) (i : ℕ) (x : A) → slice_get xs i ≡ Some x → slice_get (plain_list f xs) i ≡ Some (f x)
plain_at f [] i x e = absurd cc
plain_at f (y ∷ ys) zero x e = ap (λ z. Some (f z)) (same_Some y x e)
plain_at f (y ∷ ys) (suc i) x e = plain_at f ys i x e

-- A fact about each element of a list, and about one more.
pub each_more : {A : Type 0} (P : ℕ → A → Type 0) (xs : List A) (y : A) → ((i : ℕ) (x : A) → slice_get xs i ≡ Some x → P i x) → P (length xs) y → (i : ℕ) (x : A) → slice_get (xs ++ y ∷ []) i ≡ Some x → P i x
each_more P [] y h p zero x e = subst (λ z. P 0 z) (same_Some y x e) p
each_more P [] y h p (suc i) x e = absurd cc
each_more P (z ∷ zs) y h p zero x e = h 0 x e
each_more P (z ∷ zs) y h p (suc i) x e = each_more (λ n w. P (suc n) w) zs y (λ n w f. h (suc n) w f) p i x e

-- The signer for an index exists.
pub above_within : (place count : ℕ) → place < count → place_above place < count
above_within zero count lt = lt
above_within (suc place) count lt = omega (arith, lt)

pub signer_within : (place count : ℕ) → place < count → place_above place < signers_for count
signer_within place count lt = elim (cases_lt count 2) [ inl few ↦ one place few lt | inr many ↦ more place many lt ]
  where
    one : (n : ℕ) → count < 2 → n < count → place_above n < signers_for count
    one zero few h = rw (lt-ltb count 2 few) (omega arith)
    one (suc n) few h = absurd (omega (arith, few, h))

    more : (n : ℕ) → 2 ≤ count → n < count → place_above n < signers_for count
    more zero many h = rw (le-ltb count 2 many) (omega (arith, many))
    more (suc n) many h = rw (le-ltb count 2 many) (omega (arith, many, h))

not_empty : {A : Type 0} (xs : List A) → xs ≢ [] → 0 < length xs
not_empty [] h = absurd (h refl)
not_empty (x ∷ xs) h = omega arith

pub front_more : (orders : List Order) (keys : List PublicKey) (ps : List PlainOrder) (p : PlainOrder) → AcceptsFront orders keys ps → IsAcceptedAt orders keys (length ps) p → AcceptsFront orders keys (ps ++ p ∷ [])
front_more orders keys ps p front here = record { each = each_more (λ n q. IsAcceptedAt orders keys n q) ps p front.each here }

-- One more order is accepted.
pub accepted_more : (orders : List Order) (keys : List PublicKey) (xs ys : List Accepted) (a : Accepted) (place : ℕ) → ys ≡ xs ++ a ∷ [] → length xs ≡ place → AcceptsFront orders keys (orders_plain xs)
    → IsAcceptedAt orders keys place (accepted_plain a) → (length ys ≡ place + 1) × AcceptsFront orders keys (orders_plain ys)
accepted_more orders keys xs ys a place e n front here =
    let longer : length (xs ++ a ∷ []) ≡ place + 1 = omega (arith, n, length-append xs (a ∷ [])) in
    let last = subst (λ m. IsAcceptedAt orders keys m (accepted_plain a)) (sym (length_plain_list accepted_plain xs ∙ n)) here in (
      ap length e ∙ longer,
      subst (λ ps. AcceptsFront orders keys ps) (sym (ap orders_plain e ∙ plain-append accepted_plain xs (a ∷ []))) (front_more orders keys (orders_plain xs) (accepted_plain a) front last),
    )

module _ (orders : List Order) (keys : List PublicKey) (place : ℕ) (role : Role) (key : Option PublicKey) (o : Order) (stands : slice_get orders place ≡ Some o) (e : role ≡ role_at (length orders) place) (f : key ≡ slice_get keys place) where
  pub accepted_at : (r : Result Accepted Fault) → IfOk r (λ a. IsAccepted role key o (accepted_plain a)) → IfOk r (λ a. IsAcceptedAt orders keys place (accepted_plain a))
  accepted_at (Ok a) h = record {
    order = o;
    stands = stands;
    accepted = subst (λ (k : Option PublicKey). IsAccepted (role_at (length orders) place) k o (accepted_plain a)) f (subst (λ (x : Role). IsAccepted x key o (accepted_plain a)) e h);
  }
  accepted_at (Err x) h = tt

  pub refused_at : (r : Result Accepted Fault) → IfErr r (λ x. RefusesOrder role key o x) → IfErr r (λ x. IsRefusedAt orders keys place x)
  refused_at (Ok a) h = tt
  refused_at (Err x) h = record {
    order = o;
    stands = stands;
    refused = subst (λ (k : Option PublicKey). RefusesOrder (role_at (length orders) place) k o x) f (subst (λ (y : Role). RefusesOrder y key o x) e h);
  }

-- The keys of signers.
pub key_there : {S : Type 0} (key : S → PublicKey) (signers : List S) (place : ℕ) (s : S) → slice_get signers place ≡ Some s → slice_get (map key signers) place ≡ Some (key s)
key_there key signers place s e = slice_get-map key signers place ∙ ap (option_map key) e

-- All orders are accepted.
pub all_accepted : {S : Type 0} (key : S → PublicKey) (orders : List Order) (signers : List S) (xs : List Accepted) → orders ≢ [] → length signers ≡ signers_for (length orders) → length xs ≡ length orders
    → AcceptsFront orders (map key signers) (orders_plain xs) → AcceptedOrders orders (map key signers) (orders_plain xs)
all_accepted key orders signers xs some n all front = record {
  some = not_empty orders some;
  signers = length-map signers key ∙ n;
  all = length_plain_list accepted_plain xs ∙ all;
  front = front;
}

-- An accepted serial number has at most 20 bytes.
short_if : (n : ℕ) (b : Bool) (z : ℤ) → nat_lt 20 (length (integer_octets (pos n))) ≡ b → (if b then Err kinds.Overlength else Ok (pos n)) ≡ Ok z → length (integer_octets z) ≤ 20
short_if n true z e h = absurd cc
short_if n false z e h =
    let same : pos n ≡ z = cc in
    subst (λ (y : ℤ). length (integer_octets y) ≤ 20) same (ltb-false 20 (length (integer_octets (pos n))) e)

short_by : (r : Result ℕ ErrorKind) (z : ℤ) → (r >>= λ n. if nat_lt 20 (length (integer_octets (pos n))) then Err kinds.Overlength else Ok (pos n)) ≡ Ok z → length (integer_octets z) ≤ 20
short_by (Err e) z h = absurd cc
short_by (Ok n) z h = short_if n (nat_lt 20 (length (integer_octets (pos n)))) z refl h

serial_short : (w : List ℕ) (z : ℤ) → new_serial w ≡ Ok z → length (integer_octets z) ≤ 20
unfolding new_serial
serial_short w z h = short_by _ z h

ready : (role : Role) (key : Option PublicKey) (o : Order) (p : PlainOrder) → IsAccepted role key o p → IsReady role p
ready role key o p a = record { right = a.right; named = can_bear role (string_bytes o.name) p.subject a.name a.naming; serial = serial_short o.serial.items p.serial a.serial; spelled = a.dates.spelled }

pub are_ready : (orders : List Order) (keys : List PublicKey) (ps : List PlainOrder) → AcceptedOrders orders keys ps → AreReady ps
are_ready orders keys ps a place p e =
    let here = a.front.each place p e in
    subst (λ n. IsReady (role_at n place) p) (sym a.all) (ready (role_at (length orders) place) (slice_get keys place) here.order p here.accepted)

-- The keys of signers are those of accepted orders.
pub are_keys : (orders : List Order) (keys : List PublicKey) (ps : List PlainOrder) → AcceptedOrders orders keys ps → AreKeys keys ps
are_keys orders keys ps a place key p k e = subst (λ (o : Option PublicKey). IfSome o (λ s. s ≡ p.key)) k (a.front.each place p e).accepted.key

-- A rejected order is reported as the error at its index.
pub told : {S : Type 0} (key : S → PublicKey) (algorithm : S → Algorithm) (signs : S → List ℕ → Bits → Type 0) (may_refuse : S → List ℕ → Type 0) (orders : List Order) (signers : List S) (place : ℕ) (f : Fault)
    → length signers ≡ signers_for (length orders) → RefusesAt orders (map key signers) place f → Refuses key algorithm signs may_refuse orders signers (fault_at place f)
told key algorithm signs may_refuse orders signers place faults.OutOfMemory n r = tt
told key algorithm signs may_refuse orders signers place _ n r = (n, r)
