-- Certificates are issued one after another, up to the first that isn't.
use Rattle.std.proofs.Common.{◌≡◌, ℕ, zero, suc, Bool, true, false, ◌+◌, ◌<◌, List, [], ◌∷◌, ◌++◌, length, map, Some, Result, Ok, Err, refl, sym, ap, ◌∙◌, subst, arith, get_or, slice_get, length-append}
use Rattle.std.specs.Prelude.{◌==◌, if◌then◌else◌}
use Rattle.std.proofs.lemmas.Grind.{flat_map-append}
use Rattle.std.proofs.lemmas.List.{append-nil}
use Rattle.std.proofs.lemmas.Option.{same_Some, slice_get_read}
use Rattle.cert_desk_listing.specs.Oid.Bound.{Bound}
use Rattle.cert_desk_listing.specs.Der.Limits.{length_max}
use Rattle.cert_desk_listing.proofs.Der.HeadLaws.{valid_fits}
use Rattle.cert_desk_listing.specs.Der.BitStrings.{Bits}
use Rattle.cert_desk_listing.specs.Der.Grammar.{plain_list}
use Rattle.cert_desk_listing.specs.Der.Heads.{Fits}
use Rattle.cert_desk_listing.specs.Der.Shapes.{IsValid}
use Rattle.cert_desk_listing.proofs.Der.Results.{plain-append}
use Rattle.cert_desk_orders.specs.CertParts.Grammar.{Algorithm, PublicKey}
use Rattle.cert_desk_listing.specs.CertCertificates.Certificates.{PlainCertificate, Tbs, certificate_octets}
use Rattle.cert_desk_listing.specs.CertCertificates.Certificates.{raw_certificate, signature_bits}
use Rattle.cert_desk_checking.specs.DeskBundle.Chains.{Stands, joined}
use Rattle.cert_desk_orders.specs.declared.order.Order.{Order}
use Rattle.cert_desk.specs.declared.accepted.Accepted.{Accepted}
use Rattle.cert_desk.specs.declared.making.Made.{Made}
use Rattle.cert_desk.specs.declared.role.Role.{Role}
use Rattle.cert_desk.specs.declared.role.Role.TheVariants as roles
use Rattle.cert_desk.specs.declared.stop.Stop.{Stop}
use Rattle.cert_desk.specs.declared.stop.Stop.TheVariants as stops
use Rattle.cert_desk.specs.Acceptance.{AcceptedOrders}
use Rattle.cert_desk.specs.Chains.{AreMade, IsMadeAt, IsOrderedAt, IsSignedBy}
use Rattle.cert_desk.specs.Making.{Makes, MakesAt, made_plain}
use Rattle.cert_desk.specs.Ordered.{ordered_part, part_octets}
use Rattle.cert_desk.specs.PlainOrders.{AreKeys, AreReady, IsReady, PlainOrder, accepted_plain, orders_plain}
use Rattle.cert_desk.specs.Refusals.{IsStoppedAt, Refuses, Stops, stop_at}
use Rattle.cert_desk.specs.Roles.{place_above, role_at}
use Rattle.cert_desk.proofs.AcceptedFronts.{each_more, key_there, plain_at}
use Rattle.cert_desk_orders.proofs.Types.AscendingSteps.{length_plain_list}
use Rattle.cert_desk_listing.proofs.CertNames.Lists.{all_more}

-- The first certificates are the ordered ones and are signed, and the input is their concatenation.
pub record IsFront {S : Type 0} (algorithm : S → Algorithm) (signs : S → List ℕ → Bits → Type 0) (ps : List PlainOrder) (signers : List S) (cs : List PlainCertificate) (stream : List ℕ) : Type 0 where
  pub made : AreMade algorithm signs ps signers cs
  pub joins : stream ≡ joined Bound cs

module _ {S : Type 0} (algorithm : S → Algorithm) (signs : S → List ℕ → Bits → Type 0) (ps : List PlainOrder) (signers : List S) (cs : List PlainCertificate) (c : PlainCertificate) where
  pub issued_more : (stream octets : List ℕ) → IsFront algorithm signs ps signers cs stream → IsMadeAt algorithm signs ps signers (length cs) c octets
      → IsFront algorithm signs ps signers (cs ++ c ∷ []) (stream ++ octets)
  issued_more stream octets front here = record {
    made = record {
      held = each_more (λ n d. IsOrderedAt ps n d) cs c front.made.held here.ordered;
      signed = each_more (λ n d. IsSignedBy algorithm signs signers n d) cs c front.made.signed here.signed;
      each = all_more (Stands Bound length_max) cs c front.made.each here.stands;
    };
    joins = ap (λ w. w ++ octets) front.joins
        ∙ ap (λ w. joined Bound cs ++ w) (here.octets_are ∙ sym (append-nil (certificate_octets Bound c)))
        ∙ sym (flat_map-append (certificate_octets Bound) cs (c ∷ []));
  }

-- One more certificate is issued.
pub made_more : {S : Type 0} (algorithm : S → Algorithm) (signs : S → List ℕ → Bits → Type 0) (ps : List PlainOrder) (signers : List S) {C : Type 0} (plain : C → PlainCertificate) (xs ys : List C) (x : C) (place : ℕ) (stream longer octets : List ℕ)
    → ys ≡ xs ++ x ∷ [] → longer ≡ stream ++ octets → length xs ≡ place → IsFront algorithm signs ps signers (plain_list plain xs) stream
    → IsMadeAt algorithm signs ps signers place (plain x) octets
    → (length ys ≡ place + 1) × IsFront algorithm signs ps signers (plain_list plain ys) longer
made_more algorithm signs ps signers plain xs ys x place stream longer octets e f n front made =
    let count : length (xs ++ x ∷ []) ≡ place + 1 = omega (arith, n, length-append xs (x ∷ [])) in
    let here = sym (length_plain_list plain xs ∙ n) in
    let more = issued_more algorithm signs ps signers (plain_list plain xs) (plain x) stream octets front (subst (λ m. IsMadeAt algorithm signs ps signers m (plain x) octets) here made) in (
      ap length e ∙ count,
      subst (λ w. IsFront algorithm signs ps signers (plain_list plain ys) w) (sym f)
          (subst (λ cs. IsFront algorithm signs ps signers cs (stream ++ octets)) (sym (ap (plain_list plain) e ∙ plain-append plain xs (x ∷ []))) more),
    )

-- The element of a list at the index above.
pub read_above : {X : Type 0} (xs : List X) (place n : ℕ) (x : X) → n ≡ place_above place → place_above place < length xs → x ≡ get_or xs n x → slice_get xs (place_above place) ≡ Some x
read_above xs place n x e within is = slice_get_read xs (length xs) (place_above place) x refl within (subst (λ i. x ≡ get_or xs i x) e is)

no_root : (b : Bool) → (if b then roles.Subscriber else roles.Subordinate) ≡ roles.Root → ⊥
no_root true e = absurd cc
no_root false e = absurd cc

-- The key of a signer is that of the order above.
pub key_above : {S : Type 0} (key : S → PublicKey) (signers : List S) (xs : List Accepted) (place : ℕ) (s : S) (y : Accepted) → AreKeys (map key signers) (orders_plain xs) → slice_get signers (place_above place) ≡ Some s
    → slice_get xs (place_above place) ≡ Some y → key s ≡ (accepted_plain y).key
key_above key signers xs place s y keys s_is y_is =
    keys (place_above place) (key s) (accepted_plain y) (key_there key signers (place_above place) s s_is) (plain_at accepted_plain xs (place_above place) y y_is)

within_all : (c : PlainCertificate) → IsValid (raw_certificate Bound) c → Stands Bound length_max c
within_all c v =
    let fits : Fits (certificate_octets Bound c) = valid_fits (raw_certificate Bound) c v in
    record { valid = v; within = omega (arith, fits) }

-- The certificate that is built at an index.
module _ (xs : List Accepted) (place : ℕ) (role : Role) (x y : Accepted) (x_is : slice_get xs place ≡ Some x) (y_is : slice_get xs (place_above place) ≡ Some y) (e : role ≡ role_at (length xs) place) where
  role_is : role ≡ role_at (length (orders_plain xs)) place
  role_is = e ∙ ap (λ n. role_at n place) (sym (length_plain_list accepted_plain xs))

  pub ready_at : AreReady (orders_plain xs) → IsReady role (accepted_plain x)
  ready_at ready = subst (λ (r : Role). IsReady r (accepted_plain x)) (sym role_is) (ready place (accepted_plain x) (plain_at accepted_plain xs place x x_is))

  -- A root is above itself.
  pub own_at : role ≡ roles.Root → accepted_plain y ≡ accepted_plain x
  own_at root = by place (sym e ∙ root) x_is y_is
    where
      by : (n : ℕ) → role_at (length xs) n ≡ roles.Root → slice_get xs n ≡ Some x → slice_get xs (place_above n) ≡ Some y → accepted_plain y ≡ accepted_plain x
      by zero is here there = ap accepted_plain (same_Some y x (sym there ∙ here))
      by (suc n) is here there = absurd (no_root (length xs == suc (suc n)) is)

  order_there : slice_get (orders_plain xs) place ≡ Some (accepted_plain x)
  order_there = plain_at accepted_plain xs place x x_is

  above_there : slice_get (orders_plain xs) (place_above place) ≡ Some (accepted_plain y)
  above_there = plain_at accepted_plain xs (place_above place) y y_is

  pub makes_at : {S : Type 0} (algorithm : S → Algorithm) (signs : S → List ℕ → Bits → Type 0) (may_refuse : S → List ℕ → Type 0) (signers : List S) (s : S) → slice_get signers (place_above place) ≡ Some s → AreReady (orders_plain xs)
      → (r : Result Made Stop) → Makes (may_refuse s) (signs s) (algorithm s) role (accepted_plain x).dns (ordered_part role (accepted_plain x) (accepted_plain y) (algorithm s)) r
      → MakesAt algorithm signs may_refuse (orders_plain xs) signers place r
  makes_at algorithm signs may_refuse signers s s_is ready (Ok m) made = record {
    ordered = record {
      order = accepted_plain x;
      above = accepted_plain y;
      order_is = order_there;
      right = (ready place (accepted_plain x) order_there).right;
      above_is = above_there;
      part = made.part
          ∙ ap (λ (r : Role). ordered_part r (accepted_plain x) (accepted_plain y) (algorithm s)) role_is
          ∙ ap (λ (a : Algorithm). ordered_part (role_at (length (orders_plain xs)) place) (accepted_plain x) (accepted_plain y) a) (sym made.algorithm);
    };
    signed = record {
      signer = s;
      signer_is = s_is;
      algorithm_is = made.algorithm;
      signed = subst (λ (t : Tbs). signs s (part_octets t) (signature_bits (made_plain m))) (sym made.part) made.signed;
    };
    stands = within_all (made_plain m) made.valid;
    octets_are = made.octets_are;
  }
  makes_at algorithm signs may_refuse signers s s_is ready (Err t) h = record {
    order = accepted_plain x;
    above = accepted_plain y;
    signer = s;
    order_is = order_there;
    above_is = above_there;
    signer_is = s_is;
    holds = subst (λ (r : Role). Stops (may_refuse s) (signs s) (algorithm s) r (accepted_plain x).dns (ordered_part r (accepted_plain x) (accepted_plain y) (algorithm s)) t) role_is h;
  }

-- The error if no certificate is built after those that are.
module _ {S : Type 0} (key : S → PublicKey) (algorithm : S → Algorithm) (signs : S → List ℕ → Bits → Type 0) (may_refuse : S → List ℕ → Type 0) (orders : List Order) (signers : List S) (ps : List PlainOrder) (cs : List PlainCertificate) (place : ℕ)
    (a : AcceptedOrders orders (map key signers) ps) (n : length cs ≡ place) (made : AreMade algorithm signs ps signers cs) where
  pub stopped : (s : Stop) → IsStoppedAt algorithm signs may_refuse ps signers place s → Refuses key algorithm signs may_refuse orders signers (stop_at place s)
  stopped stops.OutOfMemory h = tt
  stopped _ h = record { asked = ps; accepted = a; before = cs; here = n; made = made; stopped = h }
