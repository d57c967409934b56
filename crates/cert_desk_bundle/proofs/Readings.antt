-- A bundle has read the input before and the bytes that it consumes.
use Rattle.std.proofs.Common.{◌≡◌, ℕ, ◌+◌, ◌^◌, ◌<◌, List, [], ◌∷◌, ◌++◌, length, take, drop, refl, sym, ap, subst, ◌∙◌, arith, append_assoc, append-nil, length-append}
use Rattle.std.proofs.lemmas.List.{take-append-drop}
use Rattle.x509_cert_certificates.specs.Certificates.{PlainCertificate, raw_certificate}
use Rattle.x509_cert_certificates.specs.Certificates.{raw_certificate_fields, certificate_octets}
use Rattle.cert_desk_bundle.specs.declared.bundle_error.BundleError.{BundleError}
use Rattle.cert_desk_bundle.specs.declared.bundle_error.BundleError.TheVariants as errors
use Rattle.cert_desk_bundle.specs.declared.standing.Standing.{Standing}
use Rattle.cert_desk_bundle.specs.declared.standing.Standing.TheVariants as standings
use Rattle.cert_desk_bundle.specs.Chains.{Stands, Chain, joined}
use Rattle.cert_desk_bundle.specs.Faults.{Split}
use Rattle.cert_desk_bundle.specs.Headers.{IsUnfinished}
use Rattle.cert_desk_bundle.specs.Streams.{Kept, Reads, ReadsSeries}
use Rattle.cert_desk_bundle.specs.Steps.{kept_octets, Grows, Advances, TakesFront, StopsBy, Stops, stopped, error_of, RefusesPiece}
use Rattle.cert_desk_bundle.proofs.Scans.{unfinished_none}
use Rattle.cert_desk_bundle.proofs.SeriesLaws.{encodings-more, Series-more}
use Rattle.cert_desk_bundle.proofs.SeriesReading.{reads_nothing, reads_unfinished, reads_fault}

-- Chains.

pub joined-more : (bound : ℕ) (cs : List PlainCertificate) (c : PlainCertificate) → joined bound (cs ++ c ∷ []) ≡ joined bound cs ++ certificate_octets bound c
joined-more bound cs c = encodings-more (raw_certificate bound) cs c

pub Chain-more : (bound limit : ℕ) (cs : List PlainCertificate) (c : PlainCertificate) → Chain bound limit cs (joined bound cs) → Stands bound limit c
    → length (joined bound (cs ++ c ∷ [])) < 2 ^ 64 → Chain bound limit (cs ++ c ∷ []) (joined bound (cs ++ c ∷ []))
Chain-more bound limit cs c chain stands fits = Series-more (raw_certificate bound) limit cs c chain stands fits

-- The empty input.

pub Reads-nil : (bound limit : ℕ) → Reads bound (record { limit = limit; certificates = []; rest = []; standing = standings.Open }) []
Reads-nil bound limit = reads_nothing (raw_certificate_fields bound) limit

-- The input that a bundle in this state has read.
abbrev pub ReadsUnder : ℕ → Standing → Kept → List ℕ → Type 0
ReadsUnder bound standing b stream = ReadsSeries (raw_certificate bound) b.limit standing b.certificates b.rest stream

-- A bundle that accepts pieces.

module _ (bound : ℕ) (old : Kept) (stream : List ℕ) where
  pub open_split : old.standing ≡ standings.Open → Reads bound old stream → Split bound old.limit stream old.certificates old.rest
  open_split e reads =
      let r : ReadsUnder bound standings.Open old stream = subst (λ (s : Standing). ReadsUnder bound s old stream) e reads in
      r.0

  -- Longer input, with more bytes after it.
  whole-more : (more : List ℕ) → Split bound old.limit stream old.certificates old.rest → stream ++ more ≡ joined bound old.certificates ++ (old.rest ++ more)
  whole-more more split = ap (λ (x : List ℕ). x ++ more) split.whole ∙ append_assoc (joined bound old.certificates) old.rest more

-- Bytes that are consumed.

pub Advances-none : (bound : ℕ) (old : Kept) → old.standing ≡ standings.Open → length (kept_octets bound old) < 2 ^ 64 + 5 → Advances bound old old []
Advances-none bound old opened fits = record {
  is_open = opened;
  limit = refl;
  grows = ([], sym (append-nil old.certificates));
  kept = sym (append-nil (kept_octets bound old));
  fits = fits;
  reads = λ stream reads. rw append-nil reads;
}

pub Grows-trans : (a b c : Kept) → Grows a b → Grows b c → Grows a c
Grows-trans a b c g h = (g.0 ++ h.0, h.1 ∙ ap (λ (cs : List PlainCertificate). cs ++ h.0) g.1 ∙ append_assoc a.certificates g.0 h.0)

pub Advances-trans : (bound : ℕ) (old now new : Kept) (front more : List ℕ) → Advances bound old now front → Advances bound now new more → Advances bound old new (front ++ more)
Advances-trans bound old now new front more a b = record {
  is_open = b.is_open;
  limit = b.limit ∙ a.limit;
  grows = Grows-trans old now new a.grows b.grows;
  kept = b.kept ∙ ap (λ (x : List ℕ). x ++ more) a.kept ∙ append_assoc (kept_octets bound old) front more;
  fits = b.fits;
  reads = λ stream reads. rw append_assoc at (b.reads (stream ++ front) (a.reads stream reads));
}

module _ (bound : ℕ) (old new : Kept) (front : List ℕ) (opened : old.standing ≡ standings.Open) where
  -- No certificate is complete.
  pub advances-left : IsUnfinished (raw_certificate bound) old.limit (length (joined bound old.certificates)) (old.rest ++ front) → length (kept_octets bound old ++ front) < 2 ^ 64 + 5
      → new ≡ record old { rest = old.rest ++ front } → Advances bound old new front
  advances-left u fits e =
      let whole : kept_octets bound old ++ front ≡ joined bound old.certificates ++ (old.rest ++ front) = append_assoc (joined bound old.certificates) old.rest front in
      subst (λ (b : Kept). Advances bound old b front) (sym e)
      (record {
        is_open = opened;
        limit = refl;
        grows = ([], sym (append-nil old.certificates));
        kept = sym whole;
        fits = omega (arith, fits, ap length whole);
        reads = λ stream reads.
            let split = open_split bound old stream opened reads in
            rw opened (reads_unfinished (raw_certificate bound) old.limit old.certificates (old.rest ++ front) (stream ++ front) split.front (whole-more bound old stream front split) u);
      })

  -- A certificate is complete.
  module _ (c : PlainCertificate) (octets : old.rest ++ front ≡ certificate_octets bound c) (fits : length (joined bound old.certificates) + length (old.rest ++ front) < 2 ^ 64) where
    joins : joined bound (old.certificates ++ c ∷ []) ≡ joined bound old.certificates ++ (old.rest ++ front)
    joins = joined-more bound old.certificates c ∙ ap (λ (x : List ℕ). joined bound old.certificates ++ x) (sym octets)

    short : length (joined bound (old.certificates ++ c ∷ [])) < 2 ^ 64
    short = omega (arith, fits, ap length joins, length-append (joined bound old.certificates) (old.rest ++ front))

    pub advances-whole : Stands bound old.limit c → new ≡ record old { certificates = old.certificates ++ c ∷ []; rest = [] } → Advances bound old new front
    advances-whole stands same =
        subst (λ (b : Kept). Advances bound old b front) (sym same)
        (record {
          is_open = opened;
          limit = refl;
          grows = (c ∷ [], refl);
          kept = append-nil (joined bound (old.certificates ++ c ∷ [])) ∙ joins ∙ sym (append_assoc (joined bound old.certificates) old.rest front);
          fits = omega (arith, short, ap length (append-nil (joined bound (old.certificates ++ c ∷ []))));
          reads = λ stream reads.
              let split = open_split bound old stream opened reads in
              rw opened
              (reads_unfinished (raw_certificate bound) old.limit (old.certificates ++ c ∷ []) [] (stream ++ front)
              (Chain-more bound old.limit old.certificates c split.front stands short)
              (whole-more bound old stream front split ∙ sym joins ∙ sym (append-nil (joined bound (old.certificates ++ c ∷ []))))
              (unfinished_none (raw_certificate_fields bound) old.limit (length (joined bound (old.certificates ++ c ∷ [])))));
        })

-- Bytes that are rejected.

module _ (bound : ℕ) (old mid new : Kept) (piece : List ℕ) (opened : old.standing ≡ standings.Open) where
  -- The bundle that stops after consuming some of the bytes is the bundle that stops before them.
  stopped-is : (standing : Standing) → mid.limit ≡ old.limit → mid.certificates ≡ old.certificates → new ≡ stopped mid standing → new ≡ stopped old standing
  stopped-is standing a b e = e ∙ ap (λ (n : ℕ). record { limit = n; certificates = mid.certificates; rest = []; standing = standing }) a ∙ ap (λ (cs : List PlainCertificate). record { limit = old.limit; certificates = cs; rest = []; standing = standing }) b

  refuses-by : (standing : Standing) → StopsBy bound old (old.rest ++ piece) standing → RefusesPiece bound old (stopped old standing) piece (error_of bound old standing)
  refuses-by standings.Open why = absurd why
  refuses-by standings.Ended why = absurd why
  refuses-by (standings.Faulted kind) why = (
    opened,
    record { standing = refl; place_is = refl; offset_is = refl },
    why.0,
    λ stream reads.
        let split = open_split bound old stream opened reads in
        reads_fault (raw_certificate_fields bound) old.limit old.certificates (old.rest ++ piece) (stream ++ piece) split.front (whole-more bound old stream piece split) kind why.0 why.1,
  )
  refuses-by standings.NoMemory why = (
    opened,
    refl,
    λ stream reads.
        let split = open_split bound old stream opened reads in
        record { front = split.front; more = old.rest ++ piece; whole = whole-more bound old stream piece split },
  )
  refuses-by standings.NoDevice why = absurd why

  pub stops-refused : (standing : Standing) (e : BundleError) → Stops bound old mid (old.rest ++ piece) standing → new ≡ stopped mid standing → e ≡ error_of bound mid standing → RefusesPiece bound old new piece e
  stops-refused standing e s is told =
      let error : e ≡ error_of bound old standing = told ∙ error_same standing s.certificates in
      rw (stopped-is standing s.limit s.certificates is, error) (refuses-by standing s.why)
    where
      error_same : (standing : Standing) → mid.certificates ≡ old.certificates → error_of bound mid standing ≡ error_of bound old standing
      error_same standings.Open same = refl
      error_same standings.Ended same = refl
      error_same (standings.Faulted kind) same = ap (λ (cs : List PlainCertificate). errors.Fault (length cs) (length (joined bound cs)) kind) same
      error_same standings.NoMemory same = refl
      error_same standings.NoDevice same = refl

-- A bundle that stopped reports the same error.
pub error_stopped : (bound : ℕ) (b : Kept) (standing : Standing) → error_of bound (stopped b standing) standing ≡ error_of bound b standing
error_stopped bound b standings.Open = refl
error_stopped bound b standings.Ended = refl
error_stopped bound b (standings.Faulted kind) = refl
error_stopped bound b standings.NoMemory = refl
error_stopped bound b standings.NoDevice = refl

-- The rejection of bytes after those that were consumed.
pub advances-refused : (bound : ℕ) (old now new : Kept) (front left : List ℕ) (e : BundleError) → old.standing ≡ standings.Open → Advances bound old now front → RefusesPiece bound now new left e → RefusesPiece bound old new (front ++ left) e
advances-refused bound old now new front left (errors.Fault place offset kind) opened a r = (
  opened,
  record { standing = r.1.standing; place_is = r.1.place_is; offset_is = r.1.offset_is },
  r.2,
  λ stream reads. rw append_assoc at (r.3 (stream ++ front) (a.reads stream reads)),
)
advances-refused bound old now new front left errors.OutOfMemory opened a r = (
  opened,
  r.1,
  λ stream reads. rw append_assoc at (r.2 (stream ++ front) (a.reads stream reads)),
)
advances-refused bound old now new front left errors.Failed opened a r = absurd (r.0 a.is_open)

-- The loop that consumes a piece.

pub record Feeding (bound : ℕ) (old : Kept) (piece left : List ℕ) (now : Kept) : Type 0 where
  pub was_open : old.standing ≡ standings.Open
  pub front : List ℕ
  pub whole : piece ≡ front ++ left
  pub advances : Advances bound old now front

module _ (bound : ℕ) (old now new : Kept) (piece left : List ℕ) (f : Feeding bound old piece left now) where
  pub feeding-more : (count : ℕ) → TakesFront bound now new left count → Feeding bound old piece (drop count left) new
  feeding-more count t = record {
    was_open = f.was_open;
    front = f.front ++ take count left;
    whole = f.whole ∙ ap (λ (x : List ℕ). f.front ++ x) (sym (take-append-drop count left)) ∙ sym (append_assoc f.front (take count left) (drop count left));
    advances = Advances-trans bound old now new f.front (take count left) f.advances t.advances;
  }

  pub feeding-refused : (e : BundleError) → RefusesPiece bound now new left e → RefusesPiece bound old new piece e
  feeding-refused e r = rw f.whole (advances-refused bound old now new f.front left e f.was_open f.advances r)
