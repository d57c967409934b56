-- Accepted orders ask for exactly one chain, and if nothing else prevents it, they are rejected
-- only when an allocation fails.
use Rattle.std.proofs.Common.{◌≡◌, ℕ, ◌<◌, List, length, true, false, Option, Some, None, refl, sym, ap, ◌∙◌, subst, arith, inl, inr, slice_get, string_bytes, map, Ok, Err}
use Rattle.std.specs.Bool.{⊤}
use Rattle.std.specs.Prelude.{◌≢◌, IfSome, IsSomeAnd}
use Rattle.std.proofs.lemmas.List.{length-map}
use Rattle.std.proofs.lemmas.Option.{same_Some, slice_get_within}
use Rattle.cert_desk_listing.specs.Oid.Bound.{Bound}
use Rattle.cert_desk_listing.specs.Der.BitStrings.{Bits}
use Rattle.cert_desk_listing.specs.Der.Dates.{Civil}
use Rattle.cert_desk_listing.specs.Der.Shapes.{IsBody, IsContent, IsValid}
use Rattle.x509_cert_builders.specs.Refusals.{IsWantOfMemory}
use Rattle.x509_cert_builders.specs.Naming.{NamesAuthority}
use Rattle.cert_desk_orders.specs.CertParts.Grammar.{Algorithm, PublicKey, civil_of, PlainValidity, not_after}
use Rattle.cert_desk_orders.specs.CertParts.Grammar.{not_before}
use Rattle.cert_desk_listing.specs.CertNames.Names.{PlainName, name}
use Rattle.cert_desk_orders.specs.CertParts.Times.{time_of}
use Rattle.cert_desk_orders.specs.CertParts.Views.{key_plain}
use Rattle.cert_desk_listing.specs.CertCertificates.Certificates.{Tbs, tbs_certificate}
use Rattle.cert_desk_orders.specs.Types.Seconds.{unix_seconds}
use Rattle.cert_desk_listing.specs.CertNames.PlainTexts.{SpellsName}
use Rattle.cert_desk_orders.specs.declared.order.Order.{Order}
use Rattle.x509_cert_builders.specs.declared.build_error.Error.{Error}
use Rattle.cert_desk_listing.proofs.CertNames.OneName.{one_spelled, spelled_stands}
use Rattle.cert_desk_orders.proofs.Types.SecondsOrders.{one_by_text}
use Rattle.cert_desk.specs.Acceptance.{IsAccepted, IsAcceptedAt, IsNamedFor, IsTextOf, SpellDates, names_subscriber}
use Rattle.cert_desk.specs.Issuable.{AreIssuable, AreSignable, IsMemoryOrLong, IsShort}
use Rattle.cert_desk.specs.Ordered.{ordered_part, part_octets}
use Rattle.cert_desk.specs.PlainOrders.{HasNamesFor, PlainOrder}
use Rattle.cert_desk.specs.Refusals.{HasFaultyDates, HasPart, HoldsAt, IsRefusedAt, MayBeTooLong, RefusesName, RefusesOrder, Faults, Refuses, Stops, StopsAt}
use Rattle.cert_desk.specs.Roles.{role_at, place_above}
use Rattle.cert_desk.specs.declared.fault.Fault.{Fault}
use Rattle.cert_desk.specs.declared.issue_error.IssueError.{IssueError}
use Rattle.cert_desk.specs.declared.role.Role.{Role}
use Rattle.cert_desk.specs.declared.stop.Stop.{Stop}
use Rattle.cert_desk.specs.declared.fault.Fault.TheVariants as faults
use Rattle.cert_desk.specs.declared.issue_error.IssueError.TheVariants as errors
use Rattle.cert_desk.specs.declared.stop.Stop.TheVariants as stops

-- An accepted name is rejected only when an allocation fails.
named_again : (n : PlainName) (e : Error) → NamesAuthority {X = Unit {0}} n (Ok tt) → NamesAuthority {X = Unit {0}} n (Err e) → IsWantOfMemory e
named_again n e right (inl first) =
    let good = right.0 first.0 first.1 in
    let bad = rw first.3 at good in
    cc bad
named_again n e right (inr (inl (named, inl foreign))) =
    let clash = sym right.1 ∙ foreign.1 in
    absurd (cc clash)
named_again n e right (inr (inl (named, inr lacking))) =
    let clash : true ≡ false = sym right.2 ∙ lacking.1 in
    absurd (cc clash)
named_again n e right (inr (inr want)) = want

-- If a TBSCertificate has an encoding, so do the names in it.
subject_valid : (role : Role) (p above : PlainOrder) (a : Algorithm) → IsValid (tbs_certificate Bound None) (ordered_part role p above a) → IsValid (name Bound) p.subject
unfolding IsValid IsContent IsBody
subject_valid role p above a v = v.0.1.1.1.1.1.0

issuer_valid : (role : Role) (p above : PlainOrder) (a : Algorithm) → IsValid (tbs_certificate Bound None) (ordered_part role p above a) → IsValid (name Bound) above.subject
unfolding IsValid IsContent IsBody
issuer_valid role p above a v = v.0.1.1.1.0

-- A text denotes at most one date.
one_date : (text : List ℕ) (c d : Civil) → IsTextOf text c → IsTextOf text d → c ≡ d
one_date text c d h k = one_by_text c d h.0 k.0 (sym h.1 ∙ k.1)

abbrev validity_of : Civil → Civil → PlainValidity
validity_of before after = (time_of before, (time_of after, tt))

one_validity : (before after : List ℕ) (v w : PlainValidity) → SpellDates before after v → SpellDates before after w → v ≡ w
one_validity before after v w h k =
    let first = one_date before (civil_of (not_before v)) (civil_of (not_before w)) h.first k.first in
    let last = one_date after (civil_of (not_after v)) (civil_of (not_after w)) h.last k.last in
    h.spelled ∙ ap (λ c. validity_of c (civil_of (not_after v))) first ∙ ap (λ c. validity_of (civil_of (not_before w)) c) last ∙ sym k.spelled

dates_stand : (o : Order) (v : PlainValidity) → SpellDates (string_bytes o.not_before) (string_bytes o.not_after) v → HasFaultyDates o → ⊥
dates_stand o v h (inl none) = none (civil_of (not_before v)) h.first.0 h.first.1
dates_stand o v h (inr (inl none)) = none (civil_of (not_after v)) h.last.0 h.last.1
dates_stand o v h (inr (inr late)) =
    let first = ap unix_seconds (one_date (string_bytes o.not_before) (civil_of (not_before v)) late.0 h.first late.2) in
    let last = ap unix_seconds (one_date (string_bytes o.not_after) (civil_of (not_after v)) late.1 h.last late.3) in
    let lt = late.4 in
    let le = h.in_order in
    omega (arith, first, last, lt, le)

key_stands : (key : Option PublicKey) (k : PublicKey) → IfSome key (λ s. s ≡ k) → IsSomeAnd key (λ s. s ≢ k) → ⊥
key_stands (Some s) k h other = other h
key_stands None k h other = other

-- A name that is allowed for the role isn't rejected.
name_stands : (role : Role) (n : PlainName) (f : Fault) → IsNamedFor role n → RefusesName role n f → f ≡ faults.OutOfMemory
name_stands role n (faults.RootName e) h r = absurd (r.2 (named_again n e (subst (λ x. IsNamedFor x n) r.0 h) r.1))
name_stands role n faults.SubscriberName h (subscriber, fault) =
    let right : names_subscriber n ≡ true = subst (λ x. IsNamedFor x n) subscriber h in
    let clash : true ≡ false = sym right ∙ fault in
    cc clash
name_stands role n faults.OutOfMemory h r = refl
name_stands role n _ h r = absurd r

module _ (role : Role) (key : Option PublicKey) (o : Order) (p : PlainOrder) (a : IsAccepted role key o p) (valid : IsValid (name Bound) p.subject) where
  -- An accepted order asks for exactly one certificate.
  one_order : (q : PlainOrder) → IsAccepted role key o q → p ≡ q
  one_order q b =
      let subject = one_spelled Bound (string_bytes o.name) p.subject q.subject a.name b.name in
      let serial : p.serial ≡ q.serial = cc (a.serial, b.serial) in
      let validity = one_validity (string_bytes o.not_before) (string_bytes o.not_after) p.validity q.validity a.dates b.dates in
      let same_key = a.key_is ∙ sym b.key_is in
      let path = a.path_is ∙ sym b.path_is in
      let dns = a.dns_is ∙ sym b.dns_is in
      let clients = a.clients_is ∙ sym b.clients_is in
      let answers = a.answers_is ∙ sym b.answers_is in
      λ i. record { subject = subject i; serial = serial i; validity = validity i; key = same_key i; path = path i; dns = dns i; clients = clients i; answers = answers i }

  named : (n : PlainName) → SpellsName Bound (string_bytes o.name) n → IsNamedFor role n
  named n s = subst (λ x. IsNamedFor role x) (one_spelled Bound (string_bytes o.name) p.subject n a.name s) a.naming

  -- An accepted order is rejected only when an allocation fails.
  order_stands : (f : Fault) → RefusesOrder role key o f → f ≡ faults.OutOfMemory
  order_stands faults.Name r = absurd (spelled_stands Bound (string_bytes o.name) p.subject r.0 a.name r.1)
  order_stands (faults.RootName e) r =
      name_stands role r.0 (faults.RootName e) (named r.0 r.1) r.2
  order_stands faults.SubscriberName r = name_stands role r.0 faults.SubscriberName (named r.0 r.1) r.2
  order_stands faults.Serial r = absurd (cc (a.serial, r.1.1))
  order_stands faults.Dates r = absurd (dates_stand o p.validity a.dates r.2)
  order_stands faults.DnsName r = absurd (r.3 (subst (λ names. HasNamesFor role names) a.dns_is a.right.names))
  order_stands faults.KeyMismatch r = absurd (key_stands key (key_plain o.key) (subst (λ k. IfSome key (λ s. s ≡ k)) a.key_is a.key) r.4)
  order_stands faults.OutOfMemory r = refl

-- The order accepted at an index asks for exactly one certificate.
module _ (orders : List Order) (keys : List PublicKey) (place : ℕ) (p : PlainOrder) (a : IsAcceptedAt orders keys place p) (valid : IsValid (name Bound) p.subject) where
  one_at : (q : PlainOrder) → IsAcceptedAt orders keys place q → p ≡ q
  one_at q b =
      let role = role_at (length orders) place in
      let key = slice_get keys place in
      let same : b.order ≡ a.order = same_Some b.order a.order (sym b.stands ∙ a.stands) in
      one_order role key a.order p a.accepted valid q (subst (λ (o : Order). IsAccepted role key o q) same b.accepted)

  stands_at : (f : Fault) → IsRefusedAt orders keys place f → f ≡ faults.OutOfMemory
  stands_at f r =
      let role = role_at (length orders) place in
      let key = slice_get keys place in
      let same : r.order ≡ a.order = same_Some r.order a.order (sym r.stands ∙ a.stands) in
      order_stands role key a.order p a.accepted valid f (subst (λ (o : Order). RefusesOrder role key o f) same r.refused)

-- Two facts about an index are facts about the same order and signer.
module _ {S : Type 0} (algorithm : S → Algorithm) (P Q : S → Role → PlainOrder → Tbs → Type 0) (asked : List PlainOrder) (signers : List S) (place : ℕ) (h : HoldsAt algorithm P asked signers place) (k : HoldsAt algorithm Q asked signers place) where
  same_place : Q h.signer (role_at (length asked) place) h.order (ordered_part (role_at (length asked) place) h.order h.above (algorithm h.signer))
  same_place =
      let role = role_at (length asked) place in
      let order : k.order ≡ h.order = same_Some k.order h.order (sym k.order_is ∙ h.order_is) in
      let above : k.above ≡ h.above = same_Some k.above h.above (sym k.above_is ∙ h.above_is) in
      let signer : k.signer ≡ h.signer = same_Some k.signer h.signer (sym k.signer_is ∙ h.signer_is) in
      let R : PlainOrder → PlainOrder → S → Type 0 = λ p b s. Q s role p (ordered_part role p b (algorithm s)) in
      let one = subst (λ p. R p k.above k.signer) order k.holds in
      let two = subst (λ b. R h.order b k.signer) above one in
      subst (λ s. R h.order h.above s) signer two

-- If nothing prevents signing, it fails only when an allocation fails or the bits are too long.
abbrev Left : (List ℕ → Bits → Type 0) → Algorithm → Tbs → Stop → Type 0
Left signs a t stops.Refused = ⊥
Left signs a t stops.TooLong = MayBeTooLong signs a t
Left signs a t stops.OutOfMemory = ⊤

not_stopped : (may_refuse : List ℕ → Type 0) (signs : List ℕ → Bits → Type 0) (a : Algorithm) (role : Role) (dns : List (List ℕ)) (t : Tbs) → (may_refuse (part_octets t) → ⊥) → HasPart role dns t
    → (stop : Stop) → Stops may_refuse signs a role dns t stop → Left signs a t stop
not_stopped may_refuse signs a role dns t signable part stops.Refused h = signable h
not_stopped may_refuse signs a role dns t signable part stops.TooLong (inl none) = absurd (none part)
not_stopped may_refuse signs a role dns t signable part stops.TooLong (inr long) = long
not_stopped may_refuse signs a role dns t signable part stops.OutOfMemory h = tt

module _ {S : Type 0} (key : S → PublicKey) (algorithm : S → Algorithm) (signs : S → List ℕ → Bits → Type 0) (may_refuse : S → List ℕ → Type 0) (orders : List Order) (signers : List S) (h : AreSignable key algorithm may_refuse orders signers) where
  -- No order is rejected.
  no_fault : (place : ℕ) (f : Fault) → Faults key algorithm signs may_refuse orders signers place f → f ≡ faults.OutOfMemory
  no_fault place f (n, r) =
      let within : place < length h.asked = subst (λ m. place < m) (sym h.accepted.all) (slice_get_within orders place r.refused.order r.refused.stands) in
      let here = h.each place within in
      let role = role_at (length h.asked) place in
      stands_at orders (map key signers) place here.order (h.accepted.front.each place here.order here.order_is)
      (subject_valid role here.order here.above (algorithm here.signer) here.holds.1.1) f r.refused

  -- Nothing else prevents a certificate.
  left_at : (place : ℕ) (stop : Stop) → StopsAt key algorithm signs may_refuse orders signers place stop → HoldsAt algorithm (λ s role p t. Left (signs s) (algorithm s) t stop) h.asked signers place
  left_at place stop r =
      let keys = map key signers in
      let k = r.stopped in
      let many : length r.asked ≡ length h.asked = r.accepted.all ∙ sym h.accepted.all in
      let within : place < length h.asked = subst (λ m. place < m) many (slice_get_within r.asked place k.order k.order_is) in
      let here = h.each place within in
      let role = role_at (length h.asked) place in
      let order : here.order ≡ k.order = one_at orders keys place here.order (h.accepted.front.each place here.order here.order_is)
      (subject_valid role here.order here.above (algorithm here.signer) here.holds.1.1) k.order (r.accepted.front.each place k.order k.order_is) in
      let above : here.above ≡ k.above = one_at orders keys (place_above place) here.above (h.accepted.front.each (place_above place) here.above here.above_is)
      (issuer_valid role here.order here.above (algorithm here.signer) here.holds.1.1) k.above (r.accepted.front.each (place_above place) k.above k.above_is) in
      let signer : k.signer ≡ here.signer = same_Some k.signer here.signer (sym k.signer_is ∙ here.signer_is) in
      let P : ℕ → PlainOrder → PlainOrder → S → Type 0 =
      λ n p b s. Stops (may_refuse s) (signs s) (algorithm s) (role_at n place) p.dns (ordered_part (role_at n place) p b (algorithm s)) stop in
      let one = subst (λ n. P n k.order k.above k.signer) many k.holds in
      let two = subst (λ p. P (length h.asked) p k.above k.signer) (sym order) one in
      let three = subst (λ b. P (length h.asked) here.order b k.signer) (sym above) two in
      let four = subst (λ s. P (length h.asked) here.order here.above s) signer three in
      record {
        order = here.order;
        above = here.above;
        signer = here.signer;
        order_is = here.order_is;
        above_is = here.above_is;
        signer_is = here.signer_is;
        holds = not_stopped (may_refuse here.signer) (signs here.signer) (algorithm here.signer) role here.order.dns (ordered_part role here.order here.above (algorithm here.signer)) here.holds.0 here.holds.1 stop four;
      }

  pub only_long : (e : IssueError) → Refuses key algorithm signs may_refuse orders signers e → IsMemoryOrLong algorithm signs h.asked signers e
  only_long errors.NoOrders r = absurd (omega (arith, h.accepted.some, ap length r))
  only_long errors.SignerCount r = absurd (r.1 (sym (length-map signers key) ∙ h.accepted.signers))
  only_long (errors.Name place) r = absurd (cc (no_fault place faults.Name r))
  only_long (errors.RootName place e) r = absurd (cc (no_fault place (faults.RootName e) r))
  only_long (errors.SubscriberName place) r = absurd (cc (no_fault place faults.SubscriberName r))
  only_long (errors.Serial place) r = absurd (cc (no_fault place faults.Serial r))
  only_long (errors.Dates place) r = absurd (cc (no_fault place faults.Dates r))
  only_long (errors.DnsName place) r = absurd (cc (no_fault place faults.DnsName r))
  only_long (errors.KeyMismatch place) r = absurd (cc (no_fault place faults.KeyMismatch r))
  only_long (errors.Signer place) r = absurd (left_at place stops.Refused r).holds
  only_long (errors.TooLong place) r = left_at place stops.TooLong r
  only_long errors.OutOfMemory r = tt

module _ {S : Type 0} (key : S → PublicKey) (algorithm : S → Algorithm) (signs : S → List ℕ → Bits → Type 0) (may_refuse : S → List ℕ → Type 0) (orders : List Order) (signers : List S) (h : AreIssuable key algorithm signs may_refuse orders signers) where
  signable : AreSignable key algorithm may_refuse orders signers
  signable = record {
    asked = h.asked;
    accepted = h.accepted;
    each = λ place within.
        let here = h.each place within in
        record {
          order = here.order;
          above = here.above;
          signer = here.signer;
          order_is = here.order_is;
          above_is = here.above_is;
          signer_is = here.signer_is;
          holds = (here.holds.0, here.holds.1.0);
        };
  }

  -- All signatures that a signer may return are short enough.
  only_memory : (e : IssueError) → IsMemoryOrLong algorithm signs h.asked signers e → e ≡ errors.OutOfMemory
  only_memory errors.OutOfMemory k = refl
  only_memory (errors.TooLong place) k =
      let here = h.each place (slice_get_within h.asked place k.order k.order_is) in
      let long = same_place algorithm (λ s role p t. (may_refuse s (part_octets t) → ⊥) × IsShort (signs s) (algorithm s) role p.dns t) (λ s role p t. MayBeTooLong (signs s) (algorithm s) t) h.asked signers place here k in
      absurd (long.3 (here.holds.1.1 long.0 long.1 long.2))
  only_memory _ k = absurd k

pub issuable_is_issued : {S : Type 0} (key : S → PublicKey) (algorithm : S → Algorithm) (signs : S → List ℕ → Bits → Type 0) (may_refuse : S → List ℕ → Type 0)
    (orders : List Order) (signers : List S) (e : IssueError) → AreIssuable key algorithm signs may_refuse orders signers → Refuses key algorithm signs may_refuse orders signers e → e ≡ errors.OutOfMemory
unfolding signable
issuable_is_issued key algorithm signs may_refuse orders signers e h r =
    only_memory key algorithm signs may_refuse orders signers h e (only_long key algorithm signs may_refuse orders signers (signable key algorithm signs may_refuse orders signers h) e r)
