-- Chains whose certificates have one algorithm and given bits.
use Rattle.std.proofs.Common.{◌≡◌, ◌≢◌, ◌⊎◌, inl, inr, ℕ, zero, suc, ◌<◌, ◌≤◌, List, [], ◌∷◌, length, map, take, get_or, Some, slice_get, refl, sym, ap, ◌∙◌, subst, arith}
use Rattle.std.proofs.lemmas.Option.{same_Some, slice_get_read}
use mathlib.Core.List.{map-map}
use Rattle.cert_desk_orders.specs.Oid.Bound.{Bound}
use Rattle.cert_desk_orders.specs.Der.BitStrings.{Bits}
use Rattle.cert_desk_orders.specs.Der.Grammar.{plain_list}
use Rattle.cert_desk_orders.specs.Der.Limits.{length_max}
use Rattle.cert_desk_orders.specs.Der.Shapes.{Spells, octets_of, contents, body_octets}
use Rattle.cert_desk_orders.proofs.Types.AscendingSteps.{length_plain_list}
use Rattle.cert_desk_orders.specs.CertParts.Grammar.{Algorithm, PublicKey, algorithm_identifier}
use Rattle.x509_cert_builders.specs.CertCertificates.Certificates.{PlainCertificate, certificate, certificate_octets}
use Rattle.cert_desk_checking.specs.DeskIo.declared.exit_status.ExitStatus.{ExitStatus}
use Rattle.cert_desk_checking.specs.DeskIo.declared.exit_status.ExitStatus.TheVariants as statuses
use Rattle.cert_desk_checking.specs.DeskIo.Statuses.{code_of}
use Rattle.cert_desk_checking.specs.DeskBundle.Chains.{Chain}
use Rattle.cert_desk_checking.proofs.DeskBundle.OneChain.{one_chain}
use Rattle.cert_desk_orders.specs.declared.order.Order.{Order}
use Rattle.cert_desk_orders.specs.OrdersFile.{SaysOrders}
use Rattle.cert_desk.specs.declared.issue_error.IssueError.{IssueError}
use Rattle.cert_desk.specs.declared.issue_error.IssueError.TheVariants as errors
use Rattle.cert_desk.specs.Acceptance.{AcceptedOrders}
use Rattle.cert_desk.specs.Chains.{IssuedChain}
use Rattle.cert_desk.specs.Roles.{place_above, signers_for}
use Rattle.cert_desk.specs.Runs.{signing_keys}
use Rattle.cert_desk.proofs.AcceptedFronts.{plain_at}
use Rattle.cert_desk_issuing_c.specs.declared.given_signer.GivenSigner.{GivenSigner}
use Rattle.cert_desk_issuing_c.specs.Reasons.{status_of}
use Rattle.cert_desk_issuing_c.specs.Signing.{AreOrdered, AreRefusedFor, AreSigners, HoldEach, IsBeyond, IsFault, IsRefusal, IsRefusalAt, PlainSigner, RefusesEach, all_bits, given_algorithm, given_key, gives, signer_for, signer_plain}

-- Two lists with the same values, element by element.

kept : {X Y Z W : Type 0} (f : X → Z) (g : Y → Z) (h : Z → W) (xs : List X) (ys : List Y) → map f xs ≡ map g ys → map (λ x. h (f x)) xs ≡ map (λ y. h (g y)) ys
kept f g h xs ys e = sym (map-map h f xs) ∙ ap (map h) e ∙ map-map h g ys

same_for : {X Y Z : Type 0} (f : X → Z) (g : Y → Z) (xs : List X) (ys : List Y) (i : ℕ) (x : X) → map f xs ≡ map g ys → slice_get xs i ≡ Some x → (y : Y) × (f x ≡ g y)
same_for f g [] ys i x e at = absurd cc
same_for f g (z ∷ zs) [] i x e at = absurd cc
same_for f g (z ∷ zs) (y ∷ ys) zero x e at = (y, (cc))
same_for f g (z ∷ zs) (y ∷ ys) (suc i) x e at = same_for f g zs ys i x (cc) at

-- The chain that signers with one algorithm and these bits issue.
module _ (said : List Order) (algorithm : Algorithm) (bits : Bits) (signers : List GivenSigner) (are : AreSigners said algorithm bits signers) where
  keys_are : map given_key signers ≡ signing_keys said
  keys_are = kept signer_plain (signer_for algorithm bits) (λ (s : PlainSigner). s.key) signers (take (signers_for (length said)) said) are

  alike : (i : ℕ) (s : GivenSigner) → slice_get signers i ≡ Some s → (given_algorithm s ≡ algorithm) × (s.signature.now ≡ bits)
  alike i s at =
      let there = same_for signer_plain (signer_for algorithm bits) signers (take (signers_for (length said)) said) i s are at in
      (ap (λ (p : PlainSigner). p.algorithm) there.1, ap (λ (p : PlainSigner). p.bits) there.1)

  pub hold_each : (stream : List ℕ) (own : List PlainCertificate) → IssuedChain given_key given_algorithm gives said signers stream → Chain Bound length_max own stream → HoldEach said algorithm bits own
  hold_each stream own chain joins =
      let held : HoldEach said algorithm bits chain.certificates = record {
        asked = chain.asked;
        accepted = subst (λ (keys : List PublicKey). AcceptedOrders said keys chain.asked) keys_are chain.accepted;
        count = chain.holds.count ∙ chain.accepted.all;
        held = chain.holds.held;
        each = chain.holds.chain.each;
        algorithms = λ place c at. (let s = chain.signed place c at in s.algorithm_is ∙ (alike (place_above place) s.signer s.signer_is).0);
        signatures = λ place c at. (let s = chain.signed place c at in s.signed ∙ (alike (place_above place) s.signer s.signer_is).1);
      } in
      subst (λ (cs : List PlainCertificate). HoldEach said algorithm bits cs) (one_chain Bound length_max chain.certificates own stream chain.holds.chain joins) held

-- The encoding of the certificate at an index.
pub whole_octets : (c : PlainCertificate) → octets_of (certificate Bound (Some 21)) c ≡ certificate_octets Bound c
unfolding octets_of contents body_octets
whole_octets c = refl

module _ {C : Type 0} (plain : C → PlainCertificate) (xs : List C) (own : List PlainCertificate) (place : ℕ) (e : plain_list plain xs ≡ own) where
  pub at_place : (x : C) → place < length xs → x ≡ get_or xs place x → slice_get own place ≡ Some (plain x)
  at_place x within is = subst (λ (cs : List PlainCertificate). slice_get cs place ≡ Some (plain x)) e (plain_at plain xs place x (slice_get_read xs (length xs) place x refl within is))

  pub beyond : (orders algorithm signature : List ℕ) → AreOrdered orders algorithm signature own → length xs ≤ place → IsBeyond orders place algorithm signature
  beyond orders algorithm signature are past = (own, are, omega (arith, past, ap length e, length_plain_list plain xs))

-- The reason why there is none.
pub fault_by : {A B : Type 0} (status : ExitStatus) → (A → B) → IsFault A status → IsFault B status
fault_by status f (inl why) = inl (why.0, f why.1)
fault_by status f (inr memory) = inr memory

-- A reason that isn't `OutOfMemory` is reported as a rejection.
memory_or_not : (error : IssueError) → (error ≡ errors.OutOfMemory) ⊎ ((error ≢ errors.OutOfMemory) × (status_of error ≡ statuses.Refused))
memory_or_not errors.OutOfMemory = inl refl
memory_or_not _ = inr ((λ e. absurd cc), refl)

the_reason : {A B : Type 0} → A ⊎ B → (A → ⊥) → B
the_reason (inl a) other = absurd (other a)
the_reason (inr b) other = b

module _ (orders algorithm signature : List ℕ) (said others : List Order) (a : Algorithm) (bits : Bits) (error : IssueError) (says : SaysOrders orders said) (spelled : Spells (algorithm_identifier Bound) a algorithm)
    (e : others ≡ said) (f : bits ≡ all_bits signature) (short : length signature ≤ length_max) (why : (error ≡ errors.OutOfMemory) ⊎ RefusesEach others a bits error) where
  pub refused_for : (error ≡ errors.OutOfMemory) ⊎ (AreRefusedFor orders algorithm signature error × (status_of error ≡ statuses.Refused))
  refused_for = by_kind (memory_or_not error)
    where
      by_kind : (error ≡ errors.OutOfMemory) ⊎ ((error ≢ errors.OutOfMemory) × (status_of error ≡ statuses.Refused)) → (error ≡ errors.OutOfMemory) ⊎ (AreRefusedFor orders algorithm signature error × (status_of error ≡ statuses.Refused))
      by_kind (inl memory) = inl memory
      by_kind (inr other) =
          let reason = the_reason why other.0 in
          let here = subst (λ (b : Bits). RefusesEach said a b error) f (subst (λ (os : List Order). RefusesEach os a bits error) e reason) in
          inr (((said, a, says, spelled, here), other.0, short), other.1)

  pub refused_by : (status : ExitStatus) → status ≡ status_of error → IsRefusal orders algorithm signature status
  refused_by status is = by_reason refused_for
    where
      by_reason : (error ≡ errors.OutOfMemory) ⊎ (AreRefusedFor orders algorithm signature error × (status_of error ≡ statuses.Refused)) → IsRefusal orders algorithm signature status
      by_reason (inl memory) = inr (inr (is ∙ ap status_of memory))
      by_reason (inr refused) = inl (is ∙ refused.1, (error, refused.0))

-- Each status is known, and isn't `Faulty`.
abbrev pub IsKnown : ℕ → Type 0
IsKnown n = (status : ExitStatus) × (n ≡ code_of status) × (status ≢ statuses.Faulty)

pub given_status : (n : ℕ) → (n ≡ code_of statuses.Done) ⊎ (n ≡ code_of statuses.Device) → IsKnown n
given_status n (inl done) = (statuses.Done, done, λ e. absurd cc)
given_status n (inr no_room) = (statuses.Device, no_room, λ e. absurd cc)

pub refused_status : (orders : List ℕ) (place : ℕ) (algorithm signature : List ℕ) (status : ExitStatus) (n : ℕ) → n ≡ code_of status → IsRefusalAt orders place algorithm signature status → IsKnown n
refused_status orders place algorithm signature status n e (inl absent) = (status, e, λ f. absurd cc)
refused_status orders place algorithm signature status n e (inr (inl refused)) = (status, e, λ f. absurd cc)
refused_status orders place algorithm signature status n e (inr (inr (inl faulty))) = (status, e, λ f. absurd cc)
refused_status orders place algorithm signature status n e (inr (inr (inr memory))) = (status, e, λ f. absurd cc)
