-- Laws about the input that a run reads.
use Rattle.std.proofs.Common.{◌≡◌, ◌≢◌, ℕ, ◌<◌, List, [], ◌++◌, length, Result, Ok, Err, OnOk, IfErr, ◌⊎◌, inl, inr, refl, subst, sym, ap, ◌∙◌, arith, append-nil}
use Rattle.x509_cert_anchors.specs.Oid.Bound.{Bound}
use Rattle.cert_desk_rules.specs.DeskIo.Devices.{Device, Moved, MetEnd, Sound}
use Rattle.x509_cert_anchors.specs.CertCertificates.Certificates.{PlainCertificate, raw_certificate}
use Rattle.cert_desk_rules.specs.DeskBundle.declared.bundle_error.BundleError.TheVariants as errors
use Rattle.cert_desk_rules.specs.DeskBundle.declared.bundle_error.ReadError.{ReadError}
use Rattle.cert_desk_rules.specs.DeskBundle.declared.bundle_error.ReadError.TheVariants as read_errors
use Rattle.cert_desk_rules.specs.declared.checked.Verdict.{Verdict}
use Rattle.cert_desk_rules.specs.declared.checked.Verdict.TheVariants as verdicts
use Rattle.cert_desk_rules.specs.DeskBundle.declared.fault_kind.FaultKind.{FaultKind}
use Rattle.cert_desk_rules.specs.DeskBundle.declared.fault_kind.FaultKind.TheVariants as kinds
use Rattle.cert_desk_rules.specs.DeskBundle.declared.standing.Standing.{Standing}
use Rattle.cert_desk_rules.specs.DeskBundle.declared.standing.Standing.TheVariants as standings
use Rattle.cert_desk_rules.specs.DeskBundle.Chains.{Chain}
use Rattle.cert_desk_rules.specs.DeskBundle.Faults.{Says, Split, StreamFault, NoneBefore, rank}
use Rattle.cert_desk_rules.specs.Judging.{Terms}
use Rattle.cert_desk_checking.specs.Reading.{MayGoOn, AsksNoMore, ReadFailed, FedUnder, IsFed}
use Rattle.cert_desk_checking.specs.Runs.{IsReadFor, IsReadInVain, Judge, IsUnasked}
use Rattle.cert_desk_rules.specs.DeskBundle.Series.{SeriesSplit, encodings}
use Rattle.cert_desk_rules.specs.DeskBundle.Steps.{RefusesInput, StopsAtLast, Takes}
use Rattle.cert_desk_rules.specs.DeskBundle.Streams.{Kept, Reads}
use Rattle.cert_desk_rules.specs.Verdicts.{IsVerdict, StopsAsking}
use Rattle.cert_desk_rules.proofs.DeskBundle.OneChain.{certificates_told, fault_no_chain}
use Rattle.cert_desk_rules.proofs.DeskBundle.SeriesLaws.{one_split}
use Rattle.cert_desk_rules.proofs.DeskBundle.Readings.{ReadsUnder}

early : (kind : FaultKind) → kind ≢ kinds.Truncated → rank kind < rank kinds.Truncated
early kinds.NoCertificate ne = omega arith
early kinds.Indefinite ne = omega arith
early kinds.LengthTooWide ne = omega arith
early kinds.LengthNotShortest ne = omega arith
early kinds.TooLarge ne = omega arith
early kinds.Malformed ne = omega arith
early kinds.Truncated ne = absurd (ne refl)

-- An open bundle has read an input with no error, except that it may end too early.
no_fault : (bound limit : ℕ) (cs ds : List PlainCertificate) (rest stream : List ℕ) (kind : FaultKind) → kind ≢ kinds.Truncated
    → SeriesSplit (raw_certificate bound) limit stream cs rest
    → NoneBefore (raw_certificate bound) limit (length (encodings (raw_certificate bound) cs)) kinds.Truncated rest
    → StreamFault bound limit stream ds kind → ⊥
no_fault bound limit cs ds rest stream kind ne split none f =
    let s = raw_certificate bound in
    let same = one_split s limit (certificates_told bound) stream ds cs f.rest rest f.split split in
    none kind (early kind ne)
    (subst (λ (x : List ℕ). Says s limit (length (encodings s cs)) kind x) same.1
    (subst (λ (xs : List PlainCertificate). Says s limit (length (encodings s xs)) kind f.rest) same.0 f.fault.says))

-- The input that a new bundle has read, by the result of reading.
module _ (input : Device) (old new : Kept) (opened : old.standing ≡ standings.Open) (empty : Reads Bound old []) (limit : new.limit ≡ old.limit) where
  fed_under : (standing : Standing) → new.standing ≡ standing → FedUnder input new standing → IsFed input new
  fed_under standing e h = subst (λ (s : Standing). FedUnder input new s) (sym e) h

  -- The input that an open bundle has read.
  may_go_on : (now : Kept) → now.limit ≡ old.limit → (octets : List ℕ) → ReadsUnder Bound standings.Open now octets → MayGoOn new.limit octets
  may_go_on now same octets reads = λ cs kind ne f.
      no_fault Bound now.limit now.certificates cs now.rest octets kind ne reads.0 reads.1
      (subst (λ (n : ℕ). StreamFault Bound n octets cs kind) (limit ∙ sym same) f)

  module _ (e : ReadError) (r : StopsAtLast input.moves input.is_ended input.failures input.old input.new Bound old new e) where
    open_reads : ReadsUnder Bound standings.Open r.now r.octets
    open_reads = subst (λ (x : Standing). ReadsUnder Bound x r.now r.octets) r.is_open (r.reads [] empty)

    goes_on : MayGoOn new.limit r.octets
    goes_on = may_go_on r.now r.limit r.octets open_reads

    asks_no_more : AsksNoMore input new.limit
    asks_no_more = record { before = r.before; octets = r.octets; taken = r.moved; sound = goes_on; piece = r.piece; last = r.last; short = r.short }

  device_fed : (r : StopsAtLast input.moves input.is_ended input.failures input.old input.new Bound old new read_errors.Device) → FedUnder input new standings.NoDevice
  device_fed r = (
    r.octets,
    record {
      before = r.before;
      moved = r.moved;
      sound = r.sound;
      stopped = subst (λ (w : List ℕ). input.moves r.before w input.new) r.stops.0 r.last;
      not_ended = r.stops.1;
      once = r.stops.2;
    },
    goes_on read_errors.Device r,
    subst (λ (k : Kept). (rest : List ℕ) × Split Bound k.limit r.octets k.certificates rest) (sym r.stops.3) (r.now.rest, (open_reads read_errors.Device r).0),
  )

  fault_fed : (place offset : ℕ) (kind : FaultKind) → StopsAtLast input.moves input.is_ended input.failures input.old input.new Bound old new (read_errors.Bundle (errors.Fault place offset kind)) → IsFed input new
  fault_fed place offset kind r =
      elim r.stops.1 [
        | inl h ↦ fed_under (standings.Faulted kind) h.1.standing
            (r.octets ++ r.piece, r.whole, h.3 r.octets (r.reads [] empty), λ e. absurd (h.2 e), asks_no_more (read_errors.Bundle (errors.Fault place offset kind)) r, r.stops.0 ∙ r.sound)
        | inr h ↦ fed_under (standings.Faulted kind) h.2.1.standing
            (r.octets ++ r.piece, r.whole, subst (λ (w : List ℕ). Reads Bound new w) (sym (ap (λ (p : List ℕ). r.octets ++ p) h.0 ∙ append-nil r.octets)) (h.2.3 r.octets (r.reads [] empty)), λ e. h.1, asks_no_more (read_errors.Bundle (errors.Fault place offset kind)) r, r.stops.0 ∙ r.sound)
      ]

  fed_refused : (e : ReadError) → RefusesInput input.moves input.is_ended input.failures input.old input.new Bound old new e → IsFed input new
  fed_refused read_errors.Device r = fed_under standings.NoDevice (ap (λ (k : Kept). k.standing) r.stops.3) (device_fed r)
  fed_refused (read_errors.Bundle (errors.Fault place offset kind)) r = fault_fed place offset kind r
  fed_refused (read_errors.Bundle errors.OutOfMemory) r =
      elim r.stops.1 [
        | inl h ↦ fed_under standings.NoMemory h.1
            (r.octets ++ r.piece, r.whole, h.2 r.octets (r.reads [] empty), asks_no_more (read_errors.Bundle errors.OutOfMemory) r, r.stops.0 ∙ r.sound)
        | inr h ↦ absurd h.2
      ]
  fed_refused (read_errors.Bundle errors.Failed) r = absurd (r.0 opened)

  pub fed_by : {T : Type 0} (r : Result T ReadError) → OnOk r (new.standing ≡ standings.Ended) → OnOk r (MetEnd input) → OnOk r (Sound input)
      → OnOk r (Takes input.moves input.old input.new Bound old new)
      → IfErr r (RefusesInput input.moves input.is_ended input.failures input.old input.new Bound old new) → IsFed input new
  fed_by (Ok x) standing ended sound reads refused = fed_under standings.Ended standing (reads.0, reads.1, reads.2 [] empty, ended, sound)
  fed_by (Err e) standing ended sound reads refused = fed_refused e refused

-- The input that a bundle in this state has read.
module _ (input : Device) (b : Kept) where
  pub fed_none : IsFed input b → b.standing ≡ standings.NoDevice → ReadFailed input b.limit
  fed_none h e = let fed : FedUnder input b standings.NoDevice = subst (λ (s : Standing). FedUnder input b s) e h in (fed.0, fed.1, fed.2)

  pub fed_in_vain : (judge : Judge) (t : Terms) → IsFed input b → (b.standing ≡ standings.NoMemory) ⊎ (b.standing ≡ standings.Ended)
      → (b.standing ≢ standings.Ended → IsUnasked judge)
      → ((octets : List ℕ) → b.standing ≡ standings.Ended → Reads Bound b octets
      → StopsAsking t b.limit octets (judge.questions judge.old) (judge.questions judge.new))
      → IsReadInVain input judge t b.limit
  fed_in_vain judge t h (inl e) unasked stops =
      let fed : FedUnder input b standings.NoMemory = subst (λ (s : Standing). FedUnder input b s) e h in
      (fed.4, inl (fed.3, unasked (λ ended. (let none : standings.NoMemory ≡ standings.Ended = sym e ∙ ended in absurd cc))))
  fed_in_vain judge t h (inr e) unasked stops =
      let fed : FedUnder input b standings.Ended = subst (λ (s : Standing). FedUnder input b s) e h in
      (fed.4, inr (fed.0, fed.1, fed.3, stops fed.0 e fed.2))

  module _ (t : Terms) (bound : t.bound ≡ Bound) where
    -- A chain is read to its end for its verdict.
    read_whole : (octets : List ℕ) (verdict : Verdict) → Chain Bound b.limit b.certificates octets → IsVerdict t b.limit octets verdict → MetEnd input → IsReadFor verdict input b.limit
    read_whole octets verdicts.Trusted chain is met = met
    read_whole octets (verdicts.Refused place rule) chain is met = met
    read_whole octets (verdicts.StreamFault place offset kind) chain is met =
        let found : StreamFault Bound b.limit octets is.certificates kind = subst (λ (n : ℕ). StreamFault n b.limit octets is.certificates kind) bound is.found in
        absurd (fault_no_chain Bound b.limit is.certificates b.certificates kind octets found chain)
    read_whole octets verdicts.Empty chain is met = met

    -- Neither memory nor an I/O error stopped the bundle.
    pub fed_reads : (verdict : Verdict) (place offset : ℕ) (standing : Standing) → b.standing ≡ standing → FedUnder input b standing
        → (standing ≡ standings.NoMemory → ⊥) → (standing ≡ standings.NoDevice → ⊥)
        → ((kind : FaultKind) → standing ≡ standings.Faulted kind → verdict ≡ verdicts.StreamFault place offset kind)
        → ((octets : List ℕ) → Reads Bound b octets → IsVerdict t b.limit octets verdict)
        → (octets : List ℕ) × Moved input octets × Reads Bound b octets × Sound input × IsReadFor verdict input b.limit
    fed_reads verdict place offset standings.Open e h m d f v = absurd h
    fed_reads verdict place offset standings.Ended e h m d f v =
        let chain : ReadsUnder Bound standings.Ended b h.0 = subst (λ (s : Standing). ReadsUnder Bound s b h.0) e h.2 in
        (h.0, h.1, h.2, h.4, read_whole h.0 verdict chain (v h.0 h.2) h.3)
    fed_reads verdict place offset (standings.Faulted kind) e h m d f v =
        (h.0, h.1, h.2, h.5, subst (λ w. IsReadFor w input b.limit) (sym (f kind refl)) (h.3, h.4))
    fed_reads verdict place offset standings.NoMemory e h m d f v = absurd (m refl)
    fed_reads verdict place offset standings.NoDevice e h m d f v = absurd (d refl)
