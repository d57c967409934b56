-- Lemmas about the certificates at some indices, and about the bundle that reads them.
use Rattle.std.proofs.Common.{◌≡◌, ◌≢◌, ℕ, zero, suc, ◌+◌, ◌^◌, ◌<◌, ◌≤◌, List, [], ◌∷◌, ◌++◌, length, get_or, take, drop, Option, Some, None, slice_get, refl, sym, ap, subst, ◌∙◌, arith, inl, inr, append-nil, length-append}
use Rattle.std.proofs.lemmas.Bool.{cases_lt}
use Rattle.std.specs.List.{AllByRecursion}
use Rattle.std.proofs.lemmas.List.{take_more, take-append-drop}
use Rattle.std.proofs.lemmas.List.Elements.{filter_map-append}
use Rattle.cert_desk_checking.specs.Oid.Bound.{Bound}
use Rattle.cert_desk_checking.specs.CertCertificates.Certificates.{PlainCertificate, raw_certificate, certificate_octets}
use Rattle.cert_desk_checking.specs.DeskBundle.Chains.{Chain, Stands, joined}
use Rattle.cert_desk_checking.specs.DeskBundle.Faults.{StreamFault}
use Rattle.cert_desk_checking.specs.DeskBundle.Steps.{RefusesPiece, RefusesEnd}
use Rattle.cert_desk_checking.specs.DeskBundle.Streams.{Kept, Reads, ReadsSeries}
use Rattle.cert_desk_checking.specs.DeskBundle.declared.bundle_error.BundleError.{BundleError}
use Rattle.cert_desk_checking.specs.DeskBundle.declared.bundle_error.BundleError.TheVariants as errors
use Rattle.cert_desk_checking.specs.DeskBundle.declared.fault_kind.FaultKind.{FaultKind}
use Rattle.cert_desk_checking.specs.DeskBundle.declared.standing.Standing.{Standing}
use Rattle.cert_desk_checking.specs.DeskBundle.declared.standing.Standing.TheVariants as standings
use Rattle.cert_desk_checking.proofs.DeskBundle.OneChain.{one_chain, fault_no_chain}
use Rattle.cert_desk_checking.proofs.DeskBundle.SeriesLaws.{encodings-append}
use Rattle.pki_signers.specs.Paths.{certificates_at}

-- Indices, followed by others.
pub joined-append : (cs : List PlainCertificate) (path more : List ℕ) → joined Bound (certificates_at cs (path ++ more)) ≡ joined Bound (certificates_at cs path) ++ joined Bound (certificates_at cs more)
joined-append cs path more =
    ap (joined Bound) (filter_map-append (λ place. slice_get cs place) path more) ∙ encodings-append (raw_certificate Bound) (certificates_at cs path) (certificates_at cs more)

-- One more index.
pub joined-step : (cs : List PlainCertificate) (path : List ℕ) (i d : ℕ) → i < length path
    → joined Bound (certificates_at cs (take (i + 1) path)) ≡ joined Bound (certificates_at cs (take i path)) ++ joined Bound (certificates_at cs (get_or path i d ∷ []))
joined-step cs path i d h = ap (λ x. joined Bound (certificates_at cs x)) (take_more path i d h) ∙ joined-append cs (take i path) (get_or path i d ∷ [])

-- The first indices have at most as many bytes as all.
pub joined-within : (cs : List PlainCertificate) (path : List ℕ) (n : ℕ) → length (joined Bound (certificates_at cs (take n path))) ≤ length (joined Bound (certificates_at cs path))
joined-within cs path n =
    let front = joined Bound (certificates_at cs (take n path)) in
    let rest = joined Bound (certificates_at cs (drop n path)) in
    omega (arith, ap (λ x. length (joined Bound (certificates_at cs x))) (take-append-drop n path), ap length (joined-append cs (take n path) (drop n path)), length-append front rest)

-- There is no certificate at the index.
pub joined-none : (cs : List PlainCertificate) (place : ℕ) → slice_get cs place ≡ None → joined Bound (certificates_at cs (place ∷ [])) ≡ []
joined-none cs place none = rw none refl

-- There is a certificate at the index.
pub joined-some : (cs : List PlainCertificate) (place : ℕ) (c : PlainCertificate) → slice_get cs place ≡ Some c → joined Bound (certificates_at cs (place ∷ [])) ≡ certificate_octets Bound c
joined-some cs place c some = rw some (append-nil (certificate_octets Bound c))

-- A fact about each certificate is one about those at some indices.

each_at : {A : Type 0} (P : A → Type 0) (xs : List A) (place : ℕ) (x : A) → AllByRecursion P xs → slice_get xs place ≡ Some x → P x
each_at P [] place x all e = absurd cc
each_at P (y ∷ xs) zero x all e = let is : y ≡ x = cc in subst P is all.0
each_at P (y ∷ xs) (suc n) x all e = each_at P xs n x all.1 e

module _ (P : PlainCertificate → Type 0) (cs : List PlainCertificate) (all : AllByRecursion P cs) where
  one_picked : (place : ℕ) (path : List ℕ) (o : Option PlainCertificate) → slice_get cs place ≡ o → AllByRecursion P (certificates_at cs path) → AllByRecursion P (certificates_at cs (place ∷ path))
  one_picked place path None e rest = rw e rest
  one_picked place path (Some c) e rest = rw e (each_at P cs place c all e, rest)

  pub each_picked : (path : List ℕ) → AllByRecursion P (certificates_at cs path)
  each_picked [] = tt
  each_picked (place ∷ path) = one_picked place path (slice_get cs place) refl (each_picked path)

-- The certificates of a bundle that has read an input are within its limit.
stand_under : (limit : ℕ) (cs : List PlainCertificate) (rest stream : List ℕ) (standing : Standing) → ReadsSeries (raw_certificate Bound) limit standing cs rest stream → AllByRecursion (Stands Bound limit) cs
stand_under limit cs rest stream standings.Open h = h.0.front.each
stand_under limit cs rest stream standings.Ended h = h.each
stand_under limit cs rest stream (standings.Faulted kind) h = h.split.front.each
stand_under limit cs rest stream standings.NoMemory h = absurd h
stand_under limit cs rest stream standings.NoDevice h = absurd h

-- The certificates at some indices of a bundle are within its limit.
module _ (all : Kept) (stream : List ℕ) (read : Reads Bound all stream) (chain : Kept) (limit : chain.limit ≡ all.limit) where
  stand_picked : (path : List ℕ) → AllByRecursion (Stands Bound chain.limit) (certificates_at all.certificates path)
  stand_picked path =
      let Q : ℕ → Type 0 = λ n. AllByRecursion (Stands Bound n) (certificates_at all.certificates path) in
      subst Q (sym limit) (each_picked (Stands Bound all.limit) all.certificates (stand_under all.limit all.certificates all.rest stream all.standing read) path)

  -- A bundle that has read them to their end has these certificates.
  pub same_chain : (path : List ℕ) → chain.standing ≡ standings.Ended → Reads Bound chain (joined Bound (certificates_at all.certificates path)) → chain.certificates ≡ certificates_at all.certificates path
  same_chain path ended reads =
      let picked = certificates_at all.certificates path in
      let P : Standing → Type 0 = λ s. ReadsSeries (raw_certificate Bound) chain.limit s chain.certificates chain.rest (joined Bound picked) in
      let fed : Chain Bound chain.limit chain.certificates (joined Bound picked) = subst P ended reads in
      let own : Chain Bound chain.limit picked (joined Bound picked) = record { each = stand_picked path; joins = refl; fits = fed.fits } in
      one_chain Bound chain.limit chain.certificates picked (joined Bound picked) fed own

  -- A bundle that has found an error in them has read 2^64 bytes or more.
  long_fault : (path : List ℕ) (kind : FaultKind) → chain.standing ≡ standings.Faulted kind → Reads Bound chain (joined Bound (certificates_at all.certificates path))
      → 2 ^ 64 ≤ length (joined Bound (certificates_at all.certificates path))
  long_fault path kind faulted reads =
      let picked = certificates_at all.certificates path in
      let P : Standing → Type 0 = λ s. ReadsSeries (raw_certificate Bound) chain.limit s chain.certificates chain.rest (joined Bound picked) in
      let fault : StreamFault Bound chain.limit (joined Bound picked) chain.certificates kind = subst P faulted reads in
      elim (cases_lt (length (joined Bound picked)) (2 ^ 64)) [
        | inl short ↦ absurd (fault_no_chain Bound chain.limit chain.certificates picked kind (joined Bound picked) fault record { each = stand_picked path; joins = refl; fits = short })
        | inr long ↦ long
      ]

  -- So has one that rejects one of them, or their end.
  module _ (before : Kept) (opened : before.standing ≡ standings.Open) (path : List ℕ) (fed : Reads Bound before (joined Bound (certificates_at all.certificates path))) where
    pub piece_long : (place : ℕ) (e : BundleError) → RefusesPiece Bound before chain (joined Bound (certificates_at all.certificates (place ∷ []))) e → e ≢ errors.OutOfMemory
        → 2 ^ 64 ≤ length (joined Bound (certificates_at all.certificates (path ++ place ∷ [])))
    piece_long place (errors.Fault n offset kind) h other =
        long_fault (path ++ place ∷ []) kind h.1.standing (subst (Reads Bound chain) (sym (joined-append all.certificates path (place ∷ []))) (h.3 (joined Bound (certificates_at all.certificates path)) fed))
    piece_long place errors.OutOfMemory h other = absurd (other refl)
    piece_long place errors.Failed h other = absurd (h.0 opened)

    pub end_long : (e : BundleError) → RefusesEnd Bound before chain e → e ≢ errors.OutOfMemory → 2 ^ 64 ≤ length (joined Bound (certificates_at all.certificates path))
    end_long (errors.Fault n offset kind) h other = long_fault path kind h.1.standing (h.3 (joined Bound (certificates_at all.certificates path)) fed)
    end_long errors.OutOfMemory h other = absurd h
    end_long errors.Failed h other = absurd (h.0.0 opened)
