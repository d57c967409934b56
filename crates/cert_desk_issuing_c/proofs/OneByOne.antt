-- Certificates that are issued from one orders file, one at a time, are one chain.
use Rattle.std.proofs.Common.{◌≡◌, ℕ, zero, suc, List, [], ◌∷◌, ◌++◌, length, Some, slice_get, refl, sym, ap, ◌∙◌, subst}
use Rattle.std.specs.List.{AllByRecursion}
use Rattle.std.proofs.lemmas.Option.{same_Some}
use Rattle.cert_desk_orders.specs.Oid.Bound.{Bound}
use Rattle.cert_desk_orders.specs.Der.Limits.{length_max}
use Rattle.x509_cert_builders.specs.CertCertificates.Certificates.{PlainCertificate, certificate_octets}
use Rattle.cert_desk_checking.specs.DeskBundle.Chains.{Stands, joined as joined_certificates}
use Rattle.cert_desk.specs.Chains.{IsOrderedAt}
use Rattle.cert_desk_issuing_c.specs.OneByOne.{IssuedAreOneChain, joined}
use Rattle.cert_desk_issuing_c.proofs.OneAsked.{ordered_again}

each_at : {A : Type 0} (P : A → Type 0) (xs : List A) (i : ℕ) (x : A) → AllByRecursion P xs → slice_get xs i ≡ Some x → P x
each_at P [] i x all e = absurd cc
each_at P (y ∷ ys) zero x all e = subst (λ z. P z) (same_Some y x e) all.0
each_at P (y ∷ ys) (suc i) x all e = each_at P ys i x all.1 e

held_more : (P : ℕ → PlainCertificate → Type 0) (c : PlainCertificate) (cs : List PlainCertificate) → P 0 c → ((i : ℕ) (d : PlainCertificate) → slice_get cs i ≡ Some d → P (suc i) d)
    → (i : ℕ) (d : PlainCertificate) → slice_get (c ∷ cs) i ≡ Some d → P i d
held_more P c cs here more zero d e = subst (λ (x : PlainCertificate). P 0 x) (same_Some c d e) here
held_more P c cs here more (suc i) d e = more i d e

-- The bytes are the encoding of a certificate with this property.
abbrev IsPiece : (PlainCertificate → Type 0) → List ℕ → Type 0
IsPiece Says octets = (c : PlainCertificate) × (octets ≡ certificate_octets Bound c) × Stands Bound length_max c × Says c

record Collected (P : ℕ → PlainCertificate → Type 0) (pieces : List (List ℕ)) : Type 0 where
  pub certificates : List PlainCertificate
  pub count : length certificates ≡ length pieces
  pub joins : joined pieces ≡ joined_certificates Bound certificates
  pub each : AllByRecursion (Stands Bound length_max) certificates
  pub held : (i : ℕ) (c : PlainCertificate) → slice_get certificates i ≡ Some c → P i c

collected : (P : ℕ → PlainCertificate → Type 0) (pieces : List (List ℕ)) → ((i : ℕ) (octets : List ℕ) → slice_get pieces i ≡ Some octets → IsPiece (P i) octets) → Collected P pieces
collected P [] h = record { certificates = []; count = refl; joins = refl; each = tt; held = λ i c e. absurd cc }
collected P (octets ∷ pieces) h =
    let first = h 0 octets refl in
    let rest = collected (λ n c. P (suc n) c) pieces (λ i more e. h (suc i) more e) in
    record {
      certificates = first.0 ∷ rest.certificates;
      count = ap (λ n. suc n) rest.count;
      joins = ap (λ (w : List ℕ). w ++ joined pieces) first.1 ∙ ap (λ (w : List ℕ). certificate_octets Bound first.0 ++ w) rest.joins;
      each = (first.2, rest.each);
      held = held_more P first.0 rest.certificates first.3 rest.held;
    }

pub issued_are_one_chain : IssuedAreOneChain
issued_are_one_chain orders said asked pieces says accepted many short issued =
    let piece_at : (i : ℕ) (octets : List ℕ) → slice_get pieces i ≡ Some octets → IsPiece (λ c. IsOrderedAt asked i c) octets =
    λ i octets e.
    (let one = (issued i octets e).2 in
    let it = one.2.4 in
    let stands = each_at (Stands Bound length_max) one.0 i one.1 it.each one.3 in
    (one.1, one.4, stands, ordered_again orders one.2.0 said one.2.2 says it.asked asked it.accepted accepted i one.1 (it.held i one.1 one.3) stands.valid)) in
    let all = collected (λ n c. IsOrderedAt asked n c) pieces piece_at in
    (all.certificates, record { count = all.count ∙ many ∙ sym accepted.all; chain = record { each = all.each; joins = all.joins; fits = short }; held = all.held })
