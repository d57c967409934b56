-- The orders of a file ask for the same values each time that the file is parsed.
use Rattle.std.proofs.Common.{◌≡◌, ℕ, zero, suc, ◌<◌, List, [], ◌∷◌, length, map, codes, Option, Some, slice_get, string_bytes, refl, sym, ap, ◌∙◌, subst, arith}
use Rattle.std.proofs.lemmas.Option.{same_Some, slice_get_within}
use Rattle.cert_desk_orders.specs.Oid.Bound.{Bound}
use Rattle.cert_desk_orders.specs.Der.Dates.{Civil}
use Rattle.cert_desk_orders.specs.Der.Grammar.{plain_list}
use Rattle.cert_desk_orders.specs.Der.Shapes.{IsBody, IsContent, IsValid}
use Rattle.cert_desk_orders.proofs.Types.SecondsOrders.{one_by_text}
use Rattle.cert_desk_orders.specs.CertParts.Grammar.{Algorithm, PlainValidity, PublicKey, civil_of, not_after, not_before}
use Rattle.cert_desk_orders.specs.CertParts.SerialNumbers.{new_serial}
use Rattle.cert_desk_orders.specs.CertParts.Times.{time_of}
use Rattle.cert_desk_orders.specs.CertParts.Views.{key_plain}
use Rattle.x509_cert_builders.specs.CertNames.Names.{name}
use Rattle.x509_cert_builders.specs.CertNames.PlainTexts.{SpellsName}
use Rattle.x509_cert_builders.proofs.CertNames.OneName.{one_spelled}
use Rattle.x509_cert_builders.specs.CertCertificates.Certificates.{PlainCertificate, Tbs, outer_algorithm, raw_certificate, raw_tbs_certificate, tbs}
use Rattle.cert_desk_orders.specs.declared.order.Order.{Order}
use Rattle.cert_desk_orders.specs.OrderValues.{key_in, octets_in}
use Rattle.cert_desk_orders.specs.OrdersFile.{PlainLine, SayOrder, SayOrders, SaysOrders, by_order, lines_in, value_of}
use Rattle.std.specs.Option.{option_and_then}
use Rattle.cert_desk.specs.Acceptance.{AcceptedOrders, IsAccepted}
use Rattle.cert_desk.specs.Chains.{IsOrderedAt}
use Rattle.cert_desk.specs.Ordered.{ordered_part}
use Rattle.cert_desk.specs.PlainOrders.{IsRight, PlainOrder}
use Rattle.cert_desk.specs.Roles.{place_above, role_at}
use Rattle.cert_desk.specs.Runs.{signing_keys}

one_of : {A : Type 0} (o : Option A) (x y : A) → o ≡ Some x → o ≡ Some y → x ≡ y
one_of o x y e f = same_Some x y (sym e ∙ f)

plain_is : {A B : Type 0} (f : A → B) (xs : List A) → plain_list f xs ≡ map f xs
plain_is f [] = refl
plain_is f (x ∷ xs) = ap (λ ys. f x ∷ ys) (plain_is f xs)

abbrev validity_of : Civil → Civil → PlainValidity
validity_of before after = (time_of before, (time_of after, tt))

-- Two readings of the lines of one order.
module _ (lines : List PlainLine) (o q : Order) (say : SayOrder lines o) (again : SayOrder lines q) where
  name_same : string_bytes o.name ≡ string_bytes q.name
  name_same = one_of (value_of (codes "name") lines) (string_bytes o.name) (string_bytes q.name) say.name again.name

  from_same : string_bytes o.not_before ≡ string_bytes q.not_before
  from_same = one_of (value_of (codes "from") lines) (string_bytes o.not_before) (string_bytes q.not_before) say.from again.from

  until_same : string_bytes o.not_after ≡ string_bytes q.not_after
  until_same = one_of (value_of (codes "until") lines) (string_bytes o.not_after) (string_bytes q.not_after) say.until again.until

  serial_same : o.serial.items ≡ q.serial.items
  serial_same = one_of (option_and_then octets_in (value_of (codes "serial") lines)) o.serial.items q.serial.items say.serial again.serial

  key_same : key_plain o.key ≡ key_plain q.key
  key_same = one_of (option_and_then key_in (value_of (codes "key") lines)) (key_plain o.key) (key_plain q.key) say.key again.key

  dns_same : plain_list string_bytes o.dns.items ≡ plain_list string_bytes q.dns.items
  dns_same = plain_is string_bytes o.dns.items ∙ sym say.dns ∙ again.dns ∙ sym (plain_is string_bytes q.dns.items)

  -- Both readings ask for the same values, if the name has an encoding.
  module _ (n m place : ℕ) (k l : Option PublicKey) (p r : PlainOrder) (a : IsAccepted (role_at n place) k o p) (b : IsAccepted (role_at m place) l q r) (valid : IsValid (name Bound) p.subject) where
    one_validity : p.validity ≡ r.validity
    one_validity =
        let first = one_by_text (civil_of (not_before p.validity)) (civil_of (not_before r.validity)) a.dates.first.0 b.dates.first.0 (sym a.dates.first.1 ∙ from_same ∙ b.dates.first.1) in
        let last = one_by_text (civil_of (not_after p.validity)) (civil_of (not_after r.validity)) a.dates.last.0 b.dates.last.0 (sym a.dates.last.1 ∙ until_same ∙ b.dates.last.1) in
        a.dates.spelled ∙ ap (λ c. validity_of c (civil_of (not_after p.validity))) first ∙ ap (λ c. validity_of (civil_of (not_before r.validity)) c) last ∙ sym b.dates.spelled

    one_asked : p ≡ r
    one_asked =
        let subject = one_spelled Bound (string_bytes o.name) p.subject r.subject a.name (subst (λ w. SpellsName Bound w r.subject) (sym name_same) b.name) in
        let number = ap new_serial serial_same in
        let serial : p.serial ≡ r.serial = cc (a.serial, b.serial, number) in
        let validity = one_validity in
        let key = a.key_is ∙ key_same ∙ sym b.key_is in
        let path = a.path_is ∙ sym say.path ∙ again.path ∙ sym b.path_is in
        let dns = a.dns_is ∙ dns_same ∙ sym b.dns_is in
        let clients = a.clients_is ∙ sym say.client ∙ again.client ∙ sym b.clients_is in
        let answers = a.answers_is ∙ sym say.ocsp ∙ again.ocsp ∙ sym b.answers_is in
        λ i. record { subject = subject i; serial = serial i; validity = validity i; key = key i; path = path i; dns = dns i; clients = clients i; answers = answers i }

-- The orders of a file, and their lines.
said_at : (all : List (List PlainLine)) (os : List Order) (i : ℕ) (o : Order) → SayOrders all os → slice_get os i ≡ Some o → (lines : List PlainLine) × (slice_get all i ≡ Some lines) × SayOrder lines o
said_at [] [] i o s e = absurd cc
said_at [] (q ∷ os) i o s e = absurd s
said_at (lines ∷ all) [] i o s e = absurd s
said_at (lines ∷ all) (q ∷ os) zero o s e = (lines, refl, subst (λ (x : Order). SayOrder lines x) (same_Some q o e) s.0)
said_at (lines ∷ all) (q ∷ os) (suc i) o s e = said_at all os i o s.1 e

said_many : (all : List (List PlainLine)) (os : List Order) → SayOrders all os → length os ≡ length all
said_many [] [] s = refl
said_many [] (q ∷ os) s = absurd s
said_many (lines ∷ all) [] s = absurd s
said_many (lines ∷ all) (q ∷ os) s = ap (λ n. suc n) (said_many all os s.1)

there : {A : Type 0} (xs : List A) (place : ℕ) → place < length xs → (x : A) × (slice_get xs place ≡ Some x)
there [] place lt = absurd (omega (arith, lt))
there (x ∷ xs) zero lt = (x, refl)
there (x ∷ xs) (suc place) lt = there xs place (omega (arith, lt))

-- The parts of a certificate that has an encoding have encodings.
part_valid : (c : PlainCertificate) → IsValid (raw_certificate Bound) c → IsValid (raw_tbs_certificate Bound) (tbs c)
unfolding IsValid IsContent IsBody
part_valid c v = v.0.0

subject_valid : (n place : ℕ) (p above : PlainOrder) (a : Algorithm) → IsValid (raw_tbs_certificate Bound) (ordered_part (role_at n place) p above a) → IsValid (name Bound) p.subject
unfolding IsValid IsContent IsBody
subject_valid n place p above a v = v.0.1.1.1.1.1.0

issuer_valid : (n place : ℕ) (p above : PlainOrder) (a : Algorithm) → IsValid (raw_tbs_certificate Bound) (ordered_part (role_at n place) p above a) → IsValid (name Bound) above.subject
unfolding IsValid IsContent IsBody
issuer_valid n place p above a v = v.0.1.1.1.0

-- Two readings of one file, both accepted.
module _ (orders : List ℕ) (said other : List Order) (says : SaysOrders orders said) (again : SaysOrders orders other) (ps qs : List PlainOrder) (a : AcceptedOrders said (signing_keys said) ps) (b : AcceptedOrders other (signing_keys other) qs) where
  as_many : length ps ≡ length qs
  as_many = a.all ∙ said_many (by_order (lines_in orders)) said says.said ∙ sym (said_many (by_order (lines_in orders)) other again.said) ∙ sym b.all

  asked_at : (place : ℕ) (p : PlainOrder) → slice_get ps place ≡ Some p → IsValid (name Bound) p.subject → slice_get qs place ≡ Some p
  asked_at place p e valid =
      let here = a.front.each place p e in
      let mine = said_at (by_order (lines_in orders)) said place here.order says.said here.stands in
      let r = there qs place (subst (λ n. place < n) as_many (slice_get_within ps place p e)) in
      let that = b.front.each place r.0 r.1 in
      let its = said_at (by_order (lines_in orders)) other place that.order again.said that.stands in
      let same = same_Some its.0 mine.0 (sym its.1 ∙ mine.1) in
      let say = subst (λ (lines : List PlainLine). SayOrder lines that.order) same its.2 in
      let one = one_asked mine.0 here.order that.order mine.2 say (length said) (length other) place (slice_get (signing_keys said) place) (slice_get (signing_keys other) place) p r.0 here.accepted that.accepted valid in
      r.1 ∙ ap (λ (x : PlainOrder). Some x) (sym one)

  pub ordered_again : (place : ℕ) (c : PlainCertificate) → IsOrderedAt ps place c → IsValid (raw_certificate Bound) c → IsOrderedAt qs place c
  ordered_again place c h v =
      let part = subst (λ (t : Tbs). IsValid (raw_tbs_certificate Bound) t) h.part (part_valid c v) in
      record {
        order = h.order;
        above = h.above;
        order_is = asked_at place h.order h.order_is (subject_valid (length ps) place h.order h.above (outer_algorithm c) part);
        right = subst (λ n. IsRight (role_at n place) h.order) as_many h.right;
        above_is = asked_at (place_above place) h.above h.above_is (issuer_valid (length ps) place h.order h.above (outer_algorithm c) part);
        part = h.part ∙ ap (λ n. ordered_part (role_at n place) h.order h.above (outer_algorithm c)) as_many;
      }
