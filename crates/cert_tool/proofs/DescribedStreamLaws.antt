-- A stream whose certificates are dropped piece by piece is decoded as by one bundle that is fed
-- with the whole stream.
use Rattle.std.proofs.Common.{◌≡◌, ℕ, ◌+◌, ◌<◌, ◌≤◌, ◌^◌, List, [], ◌∷◌, ◌++◌, length, true, false, Option, Some, None, Ok, Err, inl, inr, refl, sym, ap, subst, ◌∙◌, arith, append_assoc, append-nil, length-append}
use Rattle.cert_tool_explain.specs.Oid.Bound.{Bound}
use Rattle.cert_tool_explain.specs.Der.Shapes.{Shape}
use Rattle.cert_tool_explain.proofs.Der.BoundLaws.{back_all, both_all}
use Rattle.cert_tool_explain.specs.CertCertificates.Certificates.{PlainCertificate, raw_certificate, raw_certificate_fields}
use Rattle.cert_tool_explain.specs.DeskIo.Devices.{Device, Fails, Moved, Sound}
use Rattle.cert_tool_explain.specs.DeskRules.declared.checked.Verdict.TheVariants as verdicts
use Rattle.cert_tool_explain.specs.DeskBundle.declared.bundle_error.BundleError.{BundleError}
use Rattle.cert_tool_explain.specs.DeskBundle.declared.bundle_error.BundleError.TheVariants as errors
use Rattle.cert_tool_explain.specs.DeskBundle.declared.fault_kind.FaultKind.{FaultKind}
use Rattle.cert_tool_explain.specs.DeskBundle.declared.fault_kind.FaultKind.TheVariants as kinds
use Rattle.cert_tool_explain.specs.DeskBundle.declared.standing.Standing.{Standing}
use Rattle.cert_tool_explain.specs.DeskBundle.declared.standing.Standing.TheVariants as standings
use Rattle.cert_tool_explain.specs.DeskBundle.Chains.{joined}
use Rattle.cert_tool_explain.specs.DeskBundle.Faults.{NoneBefore, Says, Split}
use Rattle.cert_tool_explain.specs.DeskBundle.Series.{MayStand, Series, SeriesSplit}
use Rattle.cert_tool_explain.specs.DeskBundle.Streams.{Kept, ReadsSeries}
use Rattle.cert_tool_explain.proofs.DeskBundle.OneChain.{fault_no_chain, one_fault}
use Rattle.cert_tool_explain.proofs.DeskBundle.SeriesLaws.{encodings-append}
use Rattle.cert_tool_explain.proofs.DeskBundle.SeriesReading.{reads_nothing}
use Rattle.cert_tool_explain.specs.DeskChecking.declared.outcome.Outcome.{Outcome}
use Rattle.cert_tool_explain.specs.DeskChecking.declared.outcome.Outcome.TheVariants as outcomes
use Rattle.cert_tool_explain.specs.DeskChecking.Reading.{AsksNoMore, MayGoOn}
use Rattle.cert_tool.specs.declared.each_certificate.DescribedSoFar.{DescribedSoFar}
use Rattle.cert_tool.specs.DescribedStreams.{HasMoved, HasTaken, AreCountsAfter, HasDecoded, IsDescribedStream, IsRead, IsUnwritten, stop_after}
use Rattle.cert_tool.specs.EarlyEnds.{stop_under, without_questions}

abbrev shape : Shape
shape = raw_certificate Bound

-- An error at an offset is an error at a later offset. The converse holds if a certificate of the
-- limit's size fits at the offset.
module _ (limit small large : ℕ) (le : small ≤ large) where
  says_later : (kind : FaultKind) (rest : List ℕ) → Says shape limit small kind rest → Says shape limit large kind rest
  says_later kinds.TooLarge rest h = (h.0, h.1, h.2, h.3, elim h.4 [ inl x ↦ inl x | inr x ↦ inr (omega (arith, x, le)) ])
  says_later kind rest h = h

  module _ (room : large + limit < 2 ^ 64) where
    says_before : (kind : FaultKind) (rest : List ℕ) → Says shape limit large kind rest → Says shape limit small kind rest
    says_before kinds.TooLarge rest h = (h.0, h.1, h.2, h.3, elim h.4 [ inl x ↦ inl x | inr x ↦ inl (omega (arith, x, room)) ])
    says_before kind rest h = h

    none_later : (kind : FaultKind) (rest : List ℕ) → NoneBefore shape limit small kind rest → NoneBefore shape limit large kind rest
    none_later kind rest none = λ other h says. none other h (says_before other rest says)

-- Certificates that are decoded after other certificates are decoded together with them.
module _ (limit : ℕ) (cs vs : List PlainCertificate) (front : Series shape limit cs (joined Bound cs)) (tail : List ℕ) (room : length (joined Bound (cs ++ vs)) + limit < 2 ^ 64) where
  own : length (joined Bound vs) ≤ length (joined Bound (cs ++ vs))
  own = omega (arith, ap length (encodings-append shape cs vs), length-append (joined Bound cs) (joined Bound vs))

  split_behind : (rest : List ℕ) → SeriesSplit shape limit tail vs rest → SeriesSplit shape limit (joined Bound cs ++ tail) (cs ++ vs) rest
  split_behind rest split = record {
    front = record { each = both_all (MayStand shape limit) cs vs front.each split.front.each; joins = refl; fits = omega (arith, room) };
    whole = ap (λ (x : List ℕ). joined Bound cs ++ x) split.whole ∙ sym (append_assoc (joined Bound cs) (joined Bound vs) rest) ∙ ap (λ (x : List ℕ). x ++ rest) (sym (encodings-append shape cs vs));
    longest = λ v more k e.
        let all : Series shape limit (cs ++ (vs ++ v ∷ [])) (joined Bound (cs ++ (vs ++ v ∷ []))) =
        subst (λ (xs : List PlainCertificate). Series shape limit xs (joined Bound xs)) (append_assoc cs vs (v ∷ [])) k in
        split.longest v more (record {
          each = back_all (MayStand shape limit) cs (vs ++ v ∷ []) all.each;
          joins = refl;
          fits = omega (arith, all.fits, ap length (encodings-append shape cs (vs ++ v ∷ [])), length-append (joined Bound cs) (joined Bound (vs ++ v ∷ [])));
        }) e;
  }

  reads_behind : (standing : Standing) (rest : List ℕ) → ReadsSeries shape limit standing vs rest tail → ReadsSeries shape limit standing (cs ++ vs) rest (joined Bound cs ++ tail)
  reads_behind standings.Open rest h = (split_behind rest h.0, none_later limit (length (joined Bound vs)) (length (joined Bound (cs ++ vs))) own room kinds.Truncated rest h.1)
  reads_behind standings.Ended rest h =
      let whole : joined Bound cs ++ tail ≡ joined Bound (cs ++ vs) = ap (λ (x : List ℕ). joined Bound cs ++ x) h.joins ∙ sym (encodings-append shape cs vs) in
      record { each = both_all (MayStand shape limit) cs vs front.each h.each; joins = whole; fits = omega (arith, room, ap length whole) }
  reads_behind (standings.Faulted kind) rest h = record {
    rest = h.rest;
    split = split_behind h.rest h.split;
    fault = record {
      says = says_later limit (length (joined Bound vs)) (length (joined Bound (cs ++ vs))) own kind h.rest h.fault.says;
      first = none_later limit (length (joined Bound vs)) (length (joined Bound (cs ++ vs))) own room kind h.rest h.fault.first;
    };
  }
  reads_behind standings.NoMemory rest h = absurd h
  reads_behind standings.NoDevice rest h = absurd h

-- Bytes that were decoded so far have no error but that they may end too early.
may_go_on : (limit : ℕ) (vs : List PlainCertificate) (rest stream : List ℕ) → ReadsSeries shape limit standings.Open vs rest stream → MayGoOn limit stream
may_go_on limit vs [] stream reads cs kind ne f =
    let whole : stream ≡ joined Bound vs = reads.0.whole ∙ append-nil (joined Bound vs) in
    absurd (fault_no_chain Bound limit cs vs kind stream f (record { each = reads.0.front.each; joins = whole; fits = omega (arith, reads.0.front.fits, ap length whole) }))
may_go_on limit vs (octet ∷ rest) stream reads cs kind ne f =
    absurd (ne (one_fault Bound limit cs vs kind kinds.Truncated stream f (record { rest = octet ∷ rest; split = reads.0; fault = record { says = λ e. cc; first = reads.1 } })).1)

-- Bytes that were moved in turn are moved together.
module _ (d : Device) (in_turn : (a b c : d.State) (first second : List ℕ) → d.moves a first b → d.moves b second c → d.moves a (first ++ second) c) (before : HasMoved d) (to : d.State) where
  pub moved_on : HasMoved (record d { old = d.new; new = to }) → HasMoved (record d { new = to })
  moved_on behind = (before.0 ++ behind.0, in_turn d.old d.new to before.0 behind.0 before.1 behind.1, behind.2 ∙ before.2)

  pub failed_on : (octets : List ℕ) → Fails (record d { old = d.new; new = to }) octets → Fails (record d { new = to }) (before.0 ++ octets)
  failed_on octets f = record {
    before = f.before;
    moved = in_turn d.old d.new f.before before.0 octets before.1 f.moved;
    sound = f.sound ∙ before.2;
    stopped = f.stopped;
    not_ended = f.not_ended;
    once = f.once;
  }

-- The stream was read and its certificates were dropped up to this state. The bundle decodes what
-- follows.
pub record SoFar (stream : Device) (limit : ℕ) (passed : DescribedSoFar) (bundle : Kept) (tail : List ℕ) : Type 0 where
  pub certificates : List PlainCertificate
  pub octets : List ℕ
  pub moved : Moved stream octets
  pub sound : Sound stream
  pub goes_on : MayGoOn limit octets
  pub split : Split Bound limit octets certificates tail
  pub count_is : passed.count ≡ length certificates
  pub octets_is : passed.octets ≡ length (joined Bound certificates)
  pub held : HasDecoded limit bundle standings.Open tail

pub begun : (stream : Device) (limit : ℕ) (passed : DescribedSoFar) (bundle : Kept) (tail : List ℕ) → Moved stream [] → Sound stream → passed.count ≡ 0 → passed.octets ≡ 0 → tail ≡ [] → HasDecoded limit bundle standings.Open [] → SoFar stream limit passed bundle tail
begun stream limit passed bundle tail moved sound count octets nothing held =
    let reads = reads_nothing (raw_certificate_fields Bound) limit in
    record {
      certificates = [];
      octets = [];
      moved = moved;
      sound = sound;
      goes_on = may_go_on limit [] [] [] reads;
      split = subst (λ (x : List ℕ). Split Bound limit [] [] x) (sym nothing) reads.0;
      count_is = count;
      octets_is = octets;
      held = subst (λ (x : List ℕ). HasDecoded limit bundle standings.Open x) (sym nothing) held;
    }

module _ (d : Device) (in_turn : (a b c : d.State) (first second : List ℕ) → d.moves a first b → d.moves b second c → d.moves a (first ++ second) c)
    (limit : ℕ) (passed : DescribedSoFar) (bundle : Kept) (tail : List ℕ) (so_far : SoFar d limit passed bundle tail) (to : d.State) where
  abbrev last : Device
  last = record d { old = d.new; new = to }

  abbrev all : Device
  all = record d { new = to }

  -- The next read failed.
  pub read_failed : (out : Device) → HasMoved out → Fails last [] → IsDescribedStream all out limit (Some outcomes.Device)
  read_failed out written f =
      inl (
        record { limit = limit; certificates = so_far.certificates; rest = []; standing = standings.NoDevice },
        (
          refl,
          (
            so_far.octets,
            subst (λ (x : List ℕ). Fails all x) (append-nil so_far.octets) (failed_on d in_turn (so_far.octets, so_far.moved, so_far.sound) to [] f),
            so_far.goes_on,
            (tail, so_far.split),
          ),
        ),
        refl,
        written,
      )

  module _ (piece : List ℕ) (moved : Moved last piece) (sound : Sound last) (short : length piece ≤ 4096) where
    asks_no_more : AsksNoMore all limit
    asks_no_more = record { before = d.new; octets = so_far.octets; taken = so_far.moved; sound = so_far.goes_on; piece = piece; last = moved; short = short }

    longer : so_far.octets ++ piece ≡ joined Bound so_far.certificates ++ (tail ++ piece)
    longer = ap (λ (x : List ℕ). x ++ piece) so_far.split.whole ∙ append_assoc (joined Bound so_far.certificates) tail piece

    -- Memory ran out for a piece or for a description.
    pub no_memory : (out : Device) → HasMoved out → IsDescribedStream all out limit (Some outcomes.OutOfMemory)
    no_memory out written =
        inl (
          record { limit = limit; certificates = so_far.certificates; rest = []; standing = standings.NoMemory },
          (
            refl,
            (
              so_far.octets ++ piece,
              in_turn d.old d.new to so_far.octets piece so_far.moved moved,
              record { front = so_far.split.front; more = tail ++ piece; whole = longer },
              asks_no_more,
              sound ∙ so_far.sound,
            ),
          ),
          refl,
          written,
        )

  module _ (piece : List ℕ) (read : IsRead last piece) where
    -- A description couldn't be written.
    pub unwritten : (out : Device) (out_in_turn : (a b c : out.State) (first second : List ℕ) → out.moves a first b → out.moves b second c → out.moves a (first ++ second) c) → HasMoved out
        → (end : out.State) (outcome : Outcome) → IsUnwritten (record out { old = out.new; new = end }) outcome → IsDescribedStream all (record out { new = end }) limit (Some outcome)
    unwritten out out_in_turn written end (outcomes.Checked checked) h = absurd h
    unwritten out out_in_turn written end (outcomes.BadAnchors offset fault) h = absurd h
    unwritten out out_in_turn written end outcomes.Device h =
        inr (
          refl,
          moved_on d in_turn (so_far.octets, so_far.moved, so_far.sound) to (piece, read.moved, read.sound),
          (written.0 ++ h.0, failed_on out out_in_turn written end h.0 h.1),
        )
    unwritten out out_in_turn written end outcomes.OutOfMemory h =
        no_memory piece read.moved read.sound read.short (record out { new = end }) (moved_on out out_in_turn written end h)

    module _ (new : Kept) (next : DescribedSoFar) (behind : AreCountsAfter passed new next) where
      abbrev certificates : List PlainCertificate
      certificates = so_far.certificates ++ new.certificates

      count_next : next.count ≡ length certificates
      count_next = omega (arith, behind.count_is, so_far.count_is, length-append so_far.certificates new.certificates)

      octets_next : next.octets ≡ length (joined Bound certificates)
      octets_next =
          omega (arith, behind.octets_is, so_far.octets_is, ap length (encodings-append shape so_far.certificates new.certificates), length-append (joined Bound so_far.certificates) (joined Bound new.certificates))

      reads_all : (standing : Standing) → HasDecoded bundle.limit new standing (tail ++ piece) → ReadsSeries shape limit standing certificates new.rest (so_far.octets ++ piece)
      reads_all standing held =
          let same : new.limit ≡ limit = held.limit_is ∙ so_far.held.limit_is in
          let at : ReadsSeries shape new.limit standing new.certificates new.rest (tail ++ piece) =
          subst (λ (s : Standing). ReadsSeries shape new.limit s new.certificates new.rest (tail ++ piece)) held.standing_is held.reads in
          let own : ReadsSeries shape limit standing new.certificates new.rest (tail ++ piece) =
          subst (λ (n : ℕ). ReadsSeries shape n standing new.certificates new.rest (tail ++ piece)) same at in
          subst (λ (x : List ℕ). ReadsSeries shape limit standing certificates new.rest x) (sym (longer piece read.moved read.sound read.short))
          (reads_behind limit so_far.certificates new.certificates so_far.split.front (tail ++ piece) (omega (arith, behind.room, octets_next, same)) standing new.rest own)

      -- The stream ends.
      ends_so : (end : Option Outcome) → (next.count ≡ 0 → end ≡ Some (without_questions verdicts.Empty)) → (0 < next.count → end ≡ None) → (cs : List PlainCertificate) → next.count ≡ length cs → end ≡ stop_under standings.Ended cs
      ends_so end none some [] e = none e
      ends_so end none some (c ∷ cs) e = some (omega (arith, e))

      pub at_end : (out : Device) → HasMoved out → HasTaken bundle.limit new tail piece (Ok false)
          → (end : Option Outcome) → (next.count ≡ 0 → end ≡ Some (without_questions verdicts.Empty)) → (0 < next.count → end ≡ None) → IsDescribedStream all out limit end
      at_end out written taken end none some =
          inl (
            record { limit = limit; certificates = certificates; rest = new.rest; standing = standings.Ended },
            (
              refl,
              (
                so_far.octets ++ piece,
                in_turn d.old d.new to so_far.octets piece so_far.moved read.moved,
                reads_all standings.Ended taken.1,
                read.ended taken.0,
                read.sound ∙ so_far.sound,
              ),
            ),
            ends_so end none some certificates count_next,
            written,
          )

      -- The bundle rejects the piece or the end.
      pub refused : (out : Device) → HasMoved out → (error : BundleError) → HasTaken bundle.limit new tail piece (Err error) → IsDescribedStream all out limit (Some (stop_after next error))
      refused out written (errors.Fault place offset kind) taken =
          inl (
            record { limit = limit; certificates = certificates; rest = new.rest; standing = standings.Faulted kind },
            (
              refl,
              (
                so_far.octets ++ piece,
                in_turn d.old d.new to so_far.octets piece so_far.moved read.moved,
                reads_all (standings.Faulted kind) taken.1,
                λ is. read.ended (taken.0 is),
                asks_no_more piece read.moved read.sound read.short,
                read.sound ∙ so_far.sound,
              ),
            ),
            ap (λ (n : ℕ). Some (without_questions (verdicts.StreamFault n next.octets kind))) count_next ∙ ap (λ (n : ℕ). Some (without_questions (verdicts.StreamFault (length certificates) n kind))) octets_next,
            written,
          )
      refused out written errors.OutOfMemory taken = no_memory piece read.moved read.sound read.short out written
      refused out written errors.Failed taken = no_memory piece read.moved read.sound read.short out written

      -- More may follow, and the certificates are dropped.
      pub on : HasTaken bundle.limit new tail piece (Ok true) → (later : Kept) (rest : List ℕ) → rest ≡ new.rest → HasDecoded limit later standings.Open new.rest → SoFar all limit next later rest
      on taken later rest same held =
          let reads = reads_all standings.Open taken in
          record {
            certificates = certificates;
            octets = so_far.octets ++ piece;
            moved = in_turn d.old d.new to so_far.octets piece so_far.moved read.moved;
            sound = read.sound ∙ so_far.sound;
            goes_on = may_go_on limit certificates new.rest (so_far.octets ++ piece) reads;
            split = subst (λ (x : List ℕ). Split Bound limit (so_far.octets ++ piece) certificates x) (sym same) reads.0;
            count_is = count_next;
            octets_is = octets_next;
            held = subst (λ (x : List ℕ). HasDecoded limit later standings.Open x) (sym same) held;
          }
