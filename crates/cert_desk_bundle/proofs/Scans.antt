-- Lemmas about the header of a SEQUENCE: whether more bytes are needed, the bytes have an error, or
-- a complete value is there.
use Rattle.std.proofs.Common.{◌≡◌, ◌≢◌, ℕ, ◌+◌, ◌-◌, ◌^◌, ◌<◌, ◌≤◌, Bool, true, false, cond, List, [], ◌∷◌, ◌++◌, length, get_or, take, drop, Some, None, Result, Ok, Err, refl, sym, ap, subst, ◌∙◌, arith, ◌⊎◌, inl, inr, append_assoc, append-nil, length-append, length-drop}
use Rattle.std.proofs.lemmas.Bool.{cases_lt, le-ltb, ne_eqb}
use Rattle.std.proofs.lemmas.List.{take_at, take-append-le, take-append-drop, length-take-le}
use Rattle.std.specs.Int.Digits.{number_from_digits}
use Rattle.x509_cert_certificates.proofs.Oid.DigitLaws.{number_from_digits-digits, split-same_length}
use Rattle.x509_cert_certificates.specs.Oid.Digits.{digits}
use Rattle.x509_cert_certificates.specs.Der.ErrorTypes.Error.{Error}
use Rattle.x509_cert_certificates.specs.Der.ErrorTypes.ErrorKind.{ErrorKind}
use Rattle.x509_cert_certificates.specs.Der.ErrorTypes.ErrorKind.TheVariants as errors
use Rattle.x509_cert_certificates.specs.Der.TagTypes.Tag.TheVariants as tags
use Rattle.x509_cert_certificates.specs.Der.Octets.{◌>>=◌}
use Rattle.x509_cert_certificates.specs.Der.Tags.{universal_tag, tag_octets, tag_at}
use Rattle.x509_cert_certificates.specs.Der.Heads.{Head, length_octets, head_octets, tlv, Fits, length_at, head_at}
use Rattle.x509_cert_certificates.specs.Der.Shapes.{Shape, Body, Value, sequence, IsValid, Spells, octets_of, body_octets, contents}
use Rattle.x509_cert_certificates.proofs.Der.Results.{IsBytes, ok_is, bind_ok}
use Rattle.x509_cert_certificates.proofs.Der.HeadLaws.{head_again, head_sound, length-short, length-long, length_at-short, length_at-indefinite, length_at-large, length_at-cut, length_at-digits, shortest-ok, shortest-err}
use Rattle.x509_cert_certificates.proofs.Der.LeafLaws.{read_stays}
use Rattle.x509_cert_certificates.specs.Der.HeaderTypes.Header.{Header}
use Rattle.x509_cert_certificates.specs.Der.Headers.{Scans, head_of}
use Rattle.cert_desk_bundle.specs.declared.fault_kind.FaultKind.{FaultKind}
use Rattle.cert_desk_bundle.specs.declared.fault_kind.FaultKind.TheVariants as kinds
use Rattle.cert_desk_bundle.specs.Series.{MayStand}
use Rattle.cert_desk_bundle.specs.Faults.{whole_length, Says, rank, NoneBefore, IsFault}
use Rattle.cert_desk_bundle.specs.Headers.{IsUnfinished, HasWhole, Awaits, IsContentAt, IsWanted, IsEarlyFault, fault_of}

-- Part 1: headers after the tag of a SEQUENCE.

pub head-sequence : (n : ℕ) → head_octets tags.Sequence n ≡ 0x30 ∷ length_octets n
unfolding head_octets tag_octets
head-sequence n = refl

head_is : (v : List ℕ) → head_at (0x30 ∷ v) ≡ (length_at tags.Sequence v >>= λ n. Ok (record { tag = tags.Sequence; len = n.0 }, n.1))
unfolding head_at tag_at universal_tag
head_is v = refl

-- The result of decoding the header of a SEQUENCE whose content has `n` bytes.
abbrev pub header : ℕ → List ℕ → Result (Head × List ℕ) ErrorKind
header n w = Ok (record { tag = tags.Sequence; len = n }, w)

-- The header of a SEQUENCE is decoded, whatever follows it.
pub at_header : (n : ℕ) (w : List ℕ) → n < 2 ^ 32 → head_at (head_octets tags.Sequence n ++ w) ≡ header n w
at_header n w small = head_again tags.Sequence n w (omega arith) small

-- If two such results are equal, so are the lengths.
pub one_number : (n m : ℕ) (w x : List ℕ) → header n w ≡ header m x → n ≡ m
one_number n m w x e = ap (λ (q : Head × List ℕ). q.0.len) (ok_is (record { tag = tags.Sequence; len = n }, w) (record { tag = tags.Sequence; len = m }, x) e)

-- If two such results are equal, so are the remainders.
pub one_content : (n m : ℕ) (w x : List ℕ) → header n w ≡ header m x → w ≡ x
one_content n m w x e = ap (λ (q : Head × List ℕ). q.1) (ok_is (record { tag = tags.Sequence; len = n }, w) (record { tag = tags.Sequence; len = m }, x) e)

-- Why no header is decoded from the bytes `v` after the tag.
pub data Cause (v : List ℕ) (k : ErrorKind) : Type 0 where
  cut : k ≡ errors.Incomplete → length v < 5 → Cause v k
  indefinite : (w : List ℕ) → k ≡ errors.IndefiniteLength → v ≡ 0x80 ∷ w → Cause v k
  wide : (n : ℕ) (w : List ℕ) → k ≡ errors.Overlength → v ≡ n ∷ w → 0x85 ≤ n → Cause v k
  longer : (ds w : List ℕ) → k ≡ errors.Length tags.Sequence → v ≡ (0x80 + length ds) ∷ (ds ++ w) → 0 < length ds → length ds ≤ 4
      → ((n : ℕ) → length_octets n ≡ (0x80 + length ds) ∷ ds → ⊥) → Cause v k

bind_err : (r : Result (ℕ × List ℕ) ErrorKind) (f : ℕ × List ℕ → Head × List ℕ) (k : ErrorKind) → (r >>= λ x. Ok (f x)) ≡ Err k → r ≡ Err k
bind_err (Ok x) f k e = absurd cc
bind_err (Err d) f k e = cc

fails : (b : Bool) (x : ℕ × List ℕ) (d k : ErrorKind) → cond b (Ok x) (Err d) ≡ Err k → k ≡ d
fails true x d k e = absurd cc
fails false x d k e = cc

-- The bytes of a length depend only on the number that its digits denote.
of_number : (n : ℕ) (ds : List ℕ) → 0 < length ds → length_octets n ≡ (0x80 + length ds) ∷ ds → length_octets (number_from_digits 256 ds) ≡ (0x80 + length ds) ∷ ds
of_number n ds some e =
    elim (cases_lt n 128) [
      | inl small ↦ absurd (omega (arith, ap (λ (l : List ℕ). get_or l 0 0) (sym (length-short n small) ∙ e)))
      | inr large ↦
          let is : digits 256 n ≡ ds = ap (drop 1) (sym (length-long n (digits 256 n) large refl) ∙ e) in
          ap (λ (l : List ℕ). length_octets (number_from_digits 256 l)) (sym is) ∙ ap length_octets (number_from_digits-digits 256 n (omega arith)) ∙ e
    ]

-- Digits that the decoder rejects aren't those of any length.
length_longer : (ds w : List ℕ) (k : ErrorKind) → 0 < length ds → length ds ≤ 4 → length_at tags.Sequence ((0x80 + length ds) ∷ (ds ++ w)) ≡ Err k
    → (n : ℕ) → length_octets n ≡ (0x80 + length ds) ∷ ds → ⊥
length_longer ds w k some few e n is =
    let read = shortest-ok tags.Sequence (0x80 + length ds) ds w (of_number n ds some is) in
    absurd (cc (e, length_at-digits tags.Sequence ds w some few, read))

length_cause : (v : List ℕ) (k : ErrorKind) → length_at tags.Sequence v ≡ Err k → Cause v k
unfolding length_at
length_cause [] k e = cut (cc) (omega arith)
length_cause (n ∷ w) k e =
    elim (cases_lt n 128) [
      | inl small ↦ absurd (cc (length_at-short tags.Sequence n w small))
      | inr some ↦ elim (cases_lt 128 n) [
        | inr same ↦ let is : n ≡ 128 = omega arith in indefinite w (cc (length_at-indefinite tags.Sequence w)) (ap (λ x. x ∷ w) is)
        | inl digits ↦ elim (cases_lt 132 n) [
          | inl large ↦ wide n w (cc (length_at-large tags.Sequence n w large)) refl large
          | inr few ↦ elim (cases_lt (length w) (n - 128)) [
            | inl short ↦ cut (cc (length_at-cut tags.Sequence n w digits few short)) (omega arith)
            | inr enough ↦
                let ds = take (n - 128) w in
                let count : length ds ≡ n - 128 = length-take-le (n - 128) w enough in
                let is : n ≡ 0x80 + length ds = omega arith in
                let at : n ∷ w ≡ (0x80 + length ds) ∷ (ds ++ drop (n - 128) w) = cc (is, take-append-drop (n - 128) w) in
                longer ds (drop (n - 128) w) (fails _ _ _ k (rw (le-ltb n 128 some, ne_eqb n 128 (λ x. omega arith), le-ltb 132 n few, le-ltb (length w) (n - 128) enough) at e)) at (omega arith) (omega arith)
                (length_longer ds (drop (n - 128) w) k (omega arith) (omega arith) (ap (length_at tags.Sequence) (sym at) ∙ e))
          ]
        ]
      ]
    ]

pub cause : (v : List ℕ) (k : ErrorKind) → head_at (0x30 ∷ v) ≡ Err k → Cause v k
cause v k e = length_cause v k (bind_err (length_at tags.Sequence v) (λ n. (record { tag = tags.Sequence; len = n.0 }, n.1)) k (sym (head_is v) ∙ e))

-- Bytes that begin with the header of a content of n bytes. The header has `count` bytes.
pub record Headed (rest : List ℕ) (count n : ℕ) : Type 0 where
  pub small : n < 2 ^ 32
  pub octets : rest ≡ head_octets tags.Sequence n ++ drop count rest
  pub count_is : count ≡ length (head_octets tags.Sequence n)
  pub read : head_at rest ≡ header n (drop count rest)

-- The header that the scan found after the tag.
pub headed : (rest v : List ℕ) → rest ≡ 0x30 ∷ v → IsBytes rest → (x : Header × ℕ) → Scans rest (Ok (Some x)) → Headed rest x.1 x.0.length.value
headed rest v first bytes x h =
    let read = bind_ok (length_at tags.Sequence v) (λ n. Ok (record { tag = tags.Sequence; len = n.0 }, n.1)) _ (sym (head_is v) ∙ ap head_at (sym first) ∙ h.0) in
    let tag : tags.Sequence ≡ x.0.tag = ap (λ (q : Head × List ℕ). q.0.tag) (ok_is (record { tag = tags.Sequence; len = read.0.0 }, read.0.1) (head_of x.0, drop x.1 rest) read.2) in
    let is : head_at rest ≡ header x.0.length.value (drop x.1 rest) = h.0 ∙ ap (λ t. Ok (record { tag = t; len = x.0.length.value }, drop x.1 rest)) (sym tag) in
    let sound = head_sound rest (record { tag = tags.Sequence; len = x.0.length.value }) (drop x.1 rest) bytes is in
    record {
      small = sound.2;
      octets = sound.0;
      count_is = omega (arith, h.1, ap length sound.0, length-append (head_octets tags.Sequence x.0.length.value) (drop x.1 rest), length-drop x.1 rest);
      read = is;
    }

-- Each kind of error, in terms of the result of decoding the header.

abbrev pub Heads : Shape → ℕ → ℕ → FaultKind → Result (Head × List ℕ) ErrorKind → Type 0
Heads s limit offset kinds.NoCertificate r = Unit {0}
Heads s limit offset kinds.Indefinite r = r ≡ Err errors.IndefiniteLength
Heads s limit offset kinds.LengthTooWide r = r ≡ Err errors.Overlength
Heads s limit offset kinds.LengthNotShortest r = r ≡ Err (errors.Length tags.Sequence)
Heads s limit offset kinds.TooLarge r = (n : ℕ) × (w : List ℕ) × (r ≡ header n w) × ((limit < whole_length n) ⊎ (2 ^ 64 ≤ offset + whole_length n))
Heads s limit offset kinds.Malformed r =
    (n : ℕ) × (body : List ℕ) × (w : List ℕ) × (r ≡ header n (body ++ w)) × (length body ≡ n)
    × ((v : Value s) → IsValid s v → octets_of s v ≡ head_octets tags.Sequence n ++ body → ⊥)
Heads s limit offset kinds.Truncated r = Unit {0}

pub heads : (s : Shape) (limit offset : ℕ) (kind : FaultKind) (rest : List ℕ) → Says s limit offset kind rest → Heads s limit offset kind (head_at rest)
heads s limit offset kinds.NoCertificate rest h = tt
heads s limit offset kinds.Indefinite rest h = ap head_at h.1 ∙ rw (head_is (0x80 ∷ h.0), length_at-indefinite tags.Sequence h.0) refl
heads s limit offset kinds.LengthTooWide rest h = ap head_at h.2 ∙ rw (head_is (h.0 ∷ h.1), length_at-large tags.Sequence h.0 h.1 (omega (arith, h.3))) refl
heads s limit offset kinds.LengthNotShortest rest h =
    ap head_at h.2 ∙ rw (head_is ((0x80 + length h.0) ∷ (h.0 ++ h.1)), length_at-digits tags.Sequence h.0 h.1 h.3 h.4, shortest-err tags.Sequence (0x80 + length h.0) h.0 h.1 (h.5 (number_from_digits 256 h.0))) refl
heads s limit offset kinds.TooLarge rest h = (h.0, h.1, ap head_at h.3 ∙ at_header h.0 h.1 h.2, h.4)
heads s limit offset kinds.Malformed rest h =
    (h.0, h.1, h.2, ap head_at (h.4 ∙ append_assoc (head_octets tags.Sequence h.0) h.1 h.2) ∙ at_header h.0 (h.1 ++ h.2) h.3, h.5, h.6)
heads s limit offset kinds.Truncated rest h = tt

-- Empty bytes have no header, so no kind applies to them.
no_head : (n : ℕ) (w : List ℕ) → [] ≡ head_octets tags.Sequence n ++ w → ⊥
no_head n w e = cc (e ∙ ap (λ (x : List ℕ). x ++ w) (head-sequence n))

pub says_some : (s : Shape) (limit offset : ℕ) (kind : FaultKind) → Says s limit offset kind [] → ⊥
says_some s limit offset kinds.NoCertificate h = cc (h.2)
says_some s limit offset kinds.Indefinite h = cc (h.1)
says_some s limit offset kinds.LengthTooWide h = cc (h.2)
says_some s limit offset kinds.LengthNotShortest h = cc (h.2)
says_some s limit offset kinds.TooLarge h = no_head h.0 h.1 h.3
says_some s limit offset kinds.Malformed h = no_head h.0 (h.1 ++ h.2) (h.4 ∙ append_assoc (head_octets tags.Sequence h.0) h.1 h.2)
says_some s limit offset kinds.Truncated h = h refl

rank-le : (kind : FaultKind) → rank kind ≤ 7
rank-le kinds.NoCertificate = omega arith
rank-le kinds.Indefinite = omega arith
rank-le kinds.LengthTooWide = omega arith
rank-le kinds.LengthNotShortest = omega arith
rank-le kinds.TooLarge = omega arith
rank-le kinds.Malformed = omega arith
rank-le kinds.Truncated = omega arith

module _ (s : Shape) (limit offset : ℕ) (rest v : List ℕ) (first : rest ≡ 0x30 ∷ v) where
  not_other : Says s limit offset kinds.NoCertificate rest → ⊥
  not_other says = says.3 (sym (ap (λ (l : List ℕ). get_or l 0 0) (sym first ∙ says.2)))

  -- A kind that applies to the bytes applies to their header.
  against : (r : Result (Head × List ℕ) ErrorKind) → head_at rest ≡ r → (kind : FaultKind) → Says s limit offset kind rest → Heads s limit offset kind r
  against r e kind says = subst (λ x. Heads s limit offset kind x) e (heads s limit offset kind rest says)

  -- No earlier kind applies if no header is decoded.
  pub fault_before : (k : ErrorKind) (kind : FaultKind) → head_at rest ≡ Err k → (k ≡ errors.IndefiniteLength → rank kind ≤ 2)
      → (k ≡ errors.Overlength → rank kind ≤ 3) → (k ≡ errors.Length tags.Sequence → rank kind ≤ 4) → NoneBefore s limit offset kind rest
  fault_before k kind e a b c kinds.NoCertificate h says = not_other says
  fault_before k kind e a b c kinds.Indefinite h says = let same : k ≡ errors.IndefiniteLength = cc (against (Err k) e kinds.Indefinite says) in omega (arith, a same)
  fault_before k kind e a b c kinds.LengthTooWide h says = let same : k ≡ errors.Overlength = cc (against (Err k) e kinds.LengthTooWide says) in omega (arith, b same)
  fault_before k kind e a b c kinds.LengthNotShortest h says = let same : k ≡ errors.Length tags.Sequence = cc (against (Err k) e kinds.LengthNotShortest says) in omega (arith, c same)
  fault_before k kind e a b c kinds.TooLarge h says = let x = against (Err k) e kinds.TooLarge says in absurd (cc (x.2))
  fault_before k kind e a b c kinds.Malformed h says = let x = against (Err k) e kinds.Malformed says in absurd (cc (x.3))
  fault_before k kind e a b c kinds.Truncated h says = let r = rank-le kind in absurd (omega arith)

  -- No earlier kind applies if a header is decoded.
  pub header_before : (n : ℕ) (more : List ℕ) (kind : FaultKind) → head_at rest ≡ header n more → (5 < rank kind → (whole_length n ≤ limit) × (offset + whole_length n < 2 ^ 64))
      → (6 < rank kind → length more < n) → NoneBefore s limit offset kind rest
  header_before n more kind e fits short kinds.NoCertificate h says = not_other says
  header_before n more kind e fits short kinds.Indefinite h says = absurd (cc (against (header n more) e kinds.Indefinite says))
  header_before n more kind e fits short kinds.LengthTooWide h says = absurd (cc (against (header n more) e kinds.LengthTooWide says))
  header_before n more kind e fits short kinds.LengthNotShortest h says = absurd (cc (against (header n more) e kinds.LengthNotShortest says))
  header_before n more kind e fits short kinds.TooLarge h says =
      let x = against (header n more) e kinds.TooLarge says in
      let whole : whole_length n ≡ whole_length x.0 = ap whole_length (one_number n x.0 more x.1 x.2) in
      let f = fits h in
      elim x.3 [ inl a ↦ omega arith | inr a ↦ omega arith ]
  header_before n more kind e fits short kinds.Malformed h says =
      let x = against (header n more) e kinds.Malformed says in
      let same = one_number n x.0 more (x.1 ++ x.2) x.3 in
      omega (arith, short h, ap length (one_content n x.0 more (x.1 ++ x.2) x.3), length-append x.1 x.2, x.4)
  header_before n more kind e fits short kinds.Truncated h says = let r = rank-le kind in absurd (omega arith)

-- Part 2: values.

-- Bytes that begin with a value: its header, and the bytes after the header.
pub record Begun (fields : Body) (rest : List ℕ) (c : Value (sequence fields)) (more : List ℕ) : Type 0 where
  pub body : List ℕ
  pub small : Fits body
  pub octets : octets_of (sequence fields) c ≡ head_octets tags.Sequence (length body) ++ body
  pub whole : length (octets_of (sequence fields) c) ≡ whole_length (length body)
  pub first : rest ≡ 0x30 ∷ (length_octets (length body) ++ (body ++ more))
  pub read : head_at rest ≡ header (length body) (body ++ more)

pub value-octets : (fields : Body) (c : Value (sequence fields)) → octets_of (sequence fields) c ≡ head_octets tags.Sequence (length (body_octets fields c)) ++ body_octets fields c
unfolding octets_of contents tlv
value-octets fields c = refl

value-fits : (fields : Body) (c : Value (sequence fields)) → IsValid (sequence fields) c → Fits (octets_of (sequence fields) c)
unfolding octets_of IsValid
value-fits fields c valid = valid.2

pub begun : (fields : Body) (rest : List ℕ) (c : Value (sequence fields)) (more : List ℕ) → IsValid (sequence fields) c → rest ≡ octets_of (sequence fields) c ++ more → Begun fields rest c more
begun fields rest c more valid e =
    let body = body_octets fields c in
    let n = length body in
    let octets = value-octets fields c in
    let len : length (octets_of (sequence fields) c) ≡ whole_length n = ap length octets ∙ length-append (head_octets tags.Sequence n) body in
    let small : Fits body = omega (arith, value-fits fields c valid, len) in
    let there : rest ≡ head_octets tags.Sequence n ++ (body ++ more) = e ∙ ap (λ (x : List ℕ). x ++ more) octets ∙ append_assoc (head_octets tags.Sequence n) body more in
    record {
      body = body;
      small = small;
      octets = octets;
      whole = len;
      first = there ∙ ap (λ (x : List ℕ). x ++ (body ++ more)) (head-sequence n);
      read = ap head_at there ∙ at_header n (body ++ more) small;
    }

pub whole_length-some : (n : ℕ) → 0 < whole_length n
whole_length-some n = omega (arith, ap length (head-sequence n))

-- Cases: no bytes, an incomplete header, and an error of the header.

module _ (fields : Body) (limit offset : ℕ) where
  pub unfinished_none : IsUnfinished (sequence fields) limit offset []
  unfinished_none = record {
    sound = λ other h says. says_some (sequence fields) limit offset other says;
    none = λ c more stands e. let b = begun fields [] c more stands.valid e in cc (b.first);
  }

  module _ (rest v : List ℕ) (first : rest ≡ 0x30 ∷ v) where
    pub unfinished_cut : head_at rest ≡ Err errors.Incomplete → IsUnfinished (sequence fields) limit offset rest
    unfinished_cut e = record {
      sound = fault_before (sequence fields) limit offset rest v first errors.Incomplete kinds.Truncated e (λ x. absurd cc) (λ x. absurd cc) (λ x. absurd cc);
      none = λ c more stands at. let b = begun fields rest c more stands.valid at in cc (e, b.read);
    }

    pub unfinished_body : (n : ℕ) (more : List ℕ) → head_at rest ≡ header n more → length more < n → whole_length n ≤ limit → offset + whole_length n < 2 ^ 64 → IsUnfinished (sequence fields) limit offset rest
    unfinished_body n more e short within fits = record {
      sound = header_before (sequence fields) limit offset rest v first n more kinds.Truncated e (λ h. (within, fits)) (λ h. short);
      none = λ c after stands at.
          let b = begun fields rest c after stands.valid at in
          let both : header n more ≡ header (length b.body) (b.body ++ after) = sym e ∙ b.read in
          omega (arith, length-append b.body after, ap length (one_content n (length b.body) more (b.body ++ after) both), one_number n (length b.body) more (b.body ++ after) both);
    }

    pub fault_large : (n : ℕ) (more : List ℕ) → n < 2 ^ 32 → rest ≡ head_octets tags.Sequence n ++ more → (limit < whole_length n) ⊎ (2 ^ 64 ≤ offset + whole_length n) → IsFault (sequence fields) limit offset kinds.TooLarge rest
    fault_large n more small octets large = record {
      says = (n, more, small, octets, large);
      first = header_before (sequence fields) limit offset rest v first n more kinds.TooLarge (ap head_at octets ∙ at_header n more small) (λ h. absurd (omega arith)) (λ h. absurd (omega arith));
    }

    -- The kind of error of an input whose header has an error.
    pub fault_head : (k : ErrorKind) → head_at rest ≡ Err k → k ≢ errors.Incomplete → IsFault (sequence fields) limit offset (fault_of k) rest
    fault_head k e other = elim (cause v k (ap head_at (sym first) ∙ e)) [
      | cut is few ↦ absurd (other is)
      | indefinite w is at ↦ rw is (record { says = (w, first ∙ ap (λ x. 0x30 ∷ x) at); first = before kinds.Indefinite (λ x. omega arith) (λ x. absurd cc) (λ x. absurd cc) })
      | wide n w is at large ↦ rw is (record { says = (n, w, first ∙ ap (λ x. 0x30 ∷ x) at, large); first = before kinds.LengthTooWide (λ x. absurd cc) (λ x. omega arith) (λ x. absurd cc) })
      | longer ds w is at some few none ↦ rw is (record { says = (ds, w, first ∙ ap (λ x. 0x30 ∷ x) at, some, few, none); first = before kinds.LengthNotShortest (λ x. absurd cc) (λ x. absurd cc) (λ x. omega arith) })
    ]
      where
        before : (kind : FaultKind) → (k ≡ errors.IndefiniteLength → rank kind ≤ 2) → (k ≡ errors.Overlength → rank kind ≤ 3) → (k ≡ errors.Length tags.Sequence → rank kind ≤ 4)
            → NoneBefore (sequence fields) limit offset kind rest
        before kind a b c = fault_before (sequence fields) limit offset rest v first k kind e a b c

  pub fault_first : (b : ℕ) (s : List ℕ) → b ≢ 0x30 → IsFault (sequence fields) limit offset kinds.NoCertificate (b ∷ s)
  fault_first b s ne = record { says = (b, s, refl, ne); first = none }
    where
      none : NoneBefore (sequence fields) limit offset kinds.NoCertificate (b ∷ s)
      none kinds.NoCertificate h says = absurd (omega arith)
      none kinds.Indefinite h says = absurd (omega arith)
      none kinds.LengthTooWide h says = absurd (omega arith)
      none kinds.LengthNotShortest h says = absurd (omega arith)
      none kinds.TooLarge h says = absurd (omega arith)
      none kinds.Malformed h says = absurd (omega arith)
      none kinds.Truncated h says = absurd (omega arith)

  -- Bytes with an error don't begin with a value.
  pub fault_none : (kind : FaultKind) (rest : List ℕ) → kind ≢ kinds.Truncated → Says (sequence fields) limit offset kind rest
      → (c : Value (sequence fields)) (more : List ℕ) → MayStand (sequence fields) limit c → offset + length (octets_of (sequence fields) c) < 2 ^ 64 → rest ≡ octets_of (sequence fields) c ++ more → ⊥
  fault_none kind rest ne says c more stands fits e = against-value kind ne says (begun fields rest c more stands.valid e)
    where
      v : Begun fields rest c more → List ℕ
      v b = length_octets (length b.body) ++ (b.body ++ more)

      kinds-of : (b : Begun fields rest c more) (kind : FaultKind) → Says (sequence fields) limit offset kind rest → Heads (sequence fields) limit offset kind (header (length b.body) (b.body ++ more))
      kinds-of b kind says = against (sequence fields) limit offset rest (v b) b.first (header (length b.body) (b.body ++ more)) b.read kind says

      against-value : (kind : FaultKind) → kind ≢ kinds.Truncated → Says (sequence fields) limit offset kind rest → Begun fields rest c more → ⊥
      against-value kinds.NoCertificate ne says b = not_other (sequence fields) limit offset rest (v b) b.first says
      against-value kinds.Indefinite ne says b = cc (kinds-of b kinds.Indefinite says)
      against-value kinds.LengthTooWide ne says b = cc (kinds-of b kinds.LengthTooWide says)
      against-value kinds.LengthNotShortest ne says b = cc (kinds-of b kinds.LengthNotShortest says)
      against-value kinds.TooLarge ne says b =
          let x = kinds-of b kinds.TooLarge says in
          let whole : whole_length (length b.body) ≡ whole_length x.0 = ap whole_length (one_number (length b.body) x.0 (b.body ++ more) x.1 x.2) in
          let w = b.whole in let i = stands.within in
          elim x.3 [ inl a ↦ omega arith | inr a ↦ omega arith ]
      against-value kinds.Malformed ne says b =
          let x = kinds-of b kinds.Malformed says in
          let n = one_number (length b.body) x.0 (b.body ++ more) (x.1 ++ x.2) x.3 in
          let bodies = split-same_length b.body x.1 more x.2 (n ∙ sym x.4) (one_content (length b.body) x.0 (b.body ++ more) (x.1 ++ x.2) x.3) in
          x.5 c stands.valid (b.octets ∙ ap (λ (m : ℕ). head_octets tags.Sequence m ++ b.body) n ∙ ap (λ (y : List ℕ). head_octets tags.Sequence x.0 ++ y) bodies.0)
      against-value kinds.Truncated ne says b = ne refl

-- Part 3: how many bytes are needed next.

-- If two lists with their remainders are equal, the shorter list is a prefix of the longer one.
pub front_of : (a b c d : List ℕ) → a ++ b ≡ c ++ d → length c ≤ length a → a ≡ c ++ drop (length c) a
front_of a b c d e short =
    let front : take (length c) a ≡ c = sym (take-append-le (length c) a b short) ∙ ap (λ (x : List ℕ). take (length c) x) e ∙ take_at c d (length c) refl in
    sym (take-append-drop (length c) a) ∙ ap (λ (x : List ℕ). x ++ drop (length c) a) front

-- A complete value has a header.
pub whole_read : (limit offset : ℕ) (rest : List ℕ) (len : ℕ) → (w : HasWhole limit offset rest len) → head_at rest ≡ header w.number (w.body ++ w.more)
whole_read limit offset rest len w = ap head_at (w.octets ∙ append_assoc (head_octets tags.Sequence w.number) w.body w.more) ∙ at_header w.number (w.body ++ w.more) w.small

module _ (limit offset : ℕ) (room : 6 ≤ limit) (below : offset < 2 ^ 64) where
  pub awaits_nothing : Awaits limit offset [] 1
  awaits_nothing = record {
    short = omega arith;
    within = omega arith;
    fits = omega arith;
    unfinished = none;
    exact = λ more len w. omega (arith, w.len_is, whole_length-some w.number);
  }
    where
      none : (b : Body) (more : List ℕ) → length more < 1 → IsUnfinished (sequence b) limit offset more
      none b [] h = unfinished_none b limit offset
      none b (x ∷ more) h = absurd (omega arith)

  module _ (rest v : List ℕ) (first : rest ≡ 0x30 ∷ v) where
    -- The remainder of a header is needed.
    pub awaits_header : head_at rest ≡ Err errors.Incomplete → Awaits limit offset rest (length rest + 1)
    awaits_header e = record {
      short = omega arith;
      within = omega (arith, few, ap length first);
      fits = omega (arith, few, ap length first);
      unfinished = still;
      exact = λ more len w. elim (cases_lt len (length rest + 1)) [ inl h ↦ absurd (not_there more len w (omega arith)) | inr h ↦ h ];
    }
      where
        few : length v < 5
        few = elim (cause v errors.Incomplete (ap head_at (sym first) ∙ e)) [
          | cut is h ↦ h
          | indefinite w is at ↦ absurd cc
          | wide n w is at large ↦ absurd cc
          | longer ds w is at some most none ↦ absurd cc
        ]

        still : (b : Body) (more : List ℕ) → length (rest ++ more) < length rest + 1 → IsUnfinished (sequence b) limit offset (rest ++ more)
        still b [] h = rw append-nil (unfinished_cut b limit offset rest v first e)
        still b (x ∷ more) h = absurd (omega (arith, length-append rest (x ∷ more)))

        not_there : (more : List ℕ) (len : ℕ) → HasWhole limit offset (rest ++ more) len → len ≤ length rest → ⊥
        not_there more len w short =
            let head = head_octets tags.Sequence w.number in
            let there : rest ++ more ≡ head ++ (w.body ++ w.more) = w.octets ∙ append_assoc head w.body w.more in
            let front = front_of rest more head (w.body ++ w.more) there (omega (arith, w.len_is)) in
            cc (e, ap head_at front, at_header w.number (drop (length head) rest) w.small)

    -- The remainder of a content is needed.
    pub awaits_content : (count n : ℕ) → Headed rest count n → length rest < whole_length n → whole_length n ≤ limit → offset + whole_length n < 2 ^ 64 → Awaits limit offset rest (whole_length n)
    awaits_content count n h short within fits = record {
      short = short;
      within = within;
      fits = omega arith;
      unfinished = λ b more few.
          unfinished_body b limit offset (rest ++ more) (v ++ more) (ap (λ (x : List ℕ). x ++ more) first) n (drop count rest ++ more) (read more)
          (omega (arith, few, length-append rest more, ap length h.octets, length-append (head_octets tags.Sequence n) (drop count rest), length-append (drop count rest) more)) within fits;
      exact = λ more len w.
          let same = one_number n w.number (drop count rest ++ more) (w.body ++ w.more) (sym (read more) ∙ whole_read limit offset (rest ++ more) len w) in
          omega (arith, w.len_is, ap whole_length same);
    }
      where
        read : (more : List ℕ) → head_at (rest ++ more) ≡ header n (drop count rest ++ more)
        read more = read_stays (record { tag = tags.Sequence; len = n }) (drop count rest) rest more h.read

    -- The value is complete.
    pub has_whole : (count n : ℕ) → Headed rest count n → whole_length n ≤ length rest → whole_length n ≤ limit → offset + whole_length n < 2 ^ 64 → HasWhole limit offset rest (whole_length n)
    has_whole count n h long within fits =
        let more = drop count rest in
        let there : n ≤ length more = omega (arith, long, ap length h.octets, length-append (head_octets tags.Sequence n) more) in
        record {
          number = n;
          body = take n more;
          more = drop n more;
          small = h.small;
          octets = h.octets ∙ ap (λ (x : List ℕ). head_octets tags.Sequence n ++ x) (sym (take-append-drop n more)) ∙ sym (append_assoc (head_octets tags.Sequence n) (take n more) (drop n more));
          content = length-take-le n more there;
          len_is = refl;
          within = within;
          fits = fits;
        }

pub awaits_new : (limit offset : ℕ) → 6 ≤ limit → offset < 2 ^ 64 → (octets : List ℕ) (wanted : ℕ) → octets ≡ [] → wanted ≡ 1 → Awaits limit offset octets wanted
awaits_new limit offset room below octets wanted none one = rw (none, one) (awaits_nothing limit offset room below)

-- More bytes have arrived, but still fewer than are needed.
pub awaits_more : (limit offset : ℕ) (rest more : List ℕ) (wanted : ℕ) → Awaits limit offset rest wanted → length (rest ++ more) < wanted → Awaits limit offset (rest ++ more) wanted
awaits_more limit offset rest more wanted a short = record {
  short = short;
  within = a.within;
  fits = a.fits;
  unfinished = λ b after few. rw append_assoc (a.unfinished b (more ++ after) (rw append_assoc at few));
  exact = λ after len w. a.exact (more ++ after) len (rw append_assoc at w);
}

-- No value is complete.
pub awaits_unfinished : (limit offset : ℕ) (rest : List ℕ) (wanted : ℕ) → Awaits limit offset rest wanted → (b : Body) → IsUnfinished (sequence b) limit offset rest
awaits_unfinished limit offset rest wanted a b =
    subst (λ (x : List ℕ). IsUnfinished (sequence b) limit offset x) (append-nil rest) (a.unfinished b [] (omega (arith, a.short, length-append rest [])))

-- Part 4: what the code learns from the first bytes.

first_is : (rest : List ℕ) → 1 ≤ length rest → get_or rest 0 0 ≡ 0x30 → rest ≡ 0x30 ∷ drop 1 rest
first_is [] l e = absurd (omega arith)
first_is (a ∷ v) l e = ap (λ (x : ℕ). x ∷ v) e

pub wanted_none : (limit offset : ℕ) → 6 ≤ limit → offset < 2 ^ 64 → (rest : List ℕ) → length rest < 1 → IsWanted limit offset rest 1
wanted_none limit offset room below [] l = record { whole = λ h. absurd (omega arith); awaits = λ h. awaits_nothing limit offset room below }
wanted_none limit offset room below (b ∷ rest) l = absurd (omega arith)

early : (v : List ℕ) (k : ErrorKind) → Cause v k → k ≢ errors.Incomplete → (fault_of k ≢ kinds.Malformed) × (fault_of k ≢ kinds.Truncated)
early v k (cut is few) other = absurd (other is)
early v k (indefinite w is at) other = rw is (λ e. cc, λ e. cc)
early v k (wide n w is at large) other = rw is (λ e. cc, λ e. cc)
early v k (longer ds w is at some few none) other = rw is (λ e. cc, λ e. cc)

module _ (limit offset : ℕ) (rest : List ℕ) (some : 1 ≤ length rest) (first : get_or rest 0 0 ≡ 0x30) where
  at_front : rest ≡ 0x30 ∷ drop 1 rest
  at_front = first_is rest some first

  pub early_head : (e : Error) → Scans rest (Err e) → IsEarlyFault limit offset rest (fault_of e.kind)
  early_head e h =
      let names = early (drop 1 rest) e.kind (cause (drop 1 rest) e.kind (ap head_at (sym at_front) ∙ h.0)) h.1 in
      record { not_malformed = names.0; not_truncated = names.1; fault = λ fields. fault_head fields limit offset rest (drop 1 rest) at_front e.kind h.0 h.1 }

  module _ (bytes : IsBytes rest) (x : Header × ℕ) (h : Scans rest (Ok (Some x))) where
    is : Headed rest x.1 x.0.length.value
    is = headed rest (drop 1 rest) at_front bytes x h

    pub early_large : (limit < x.1 + x.0.length.value) ⊎ (2 ^ 64 ≤ offset + (x.1 + x.0.length.value)) → IsEarlyFault limit offset rest kinds.TooLarge
    early_large large =
        let count = is.count_is in
        let large : (limit < whole_length x.0.length.value) ⊎ (2 ^ 64 ≤ offset + whole_length x.0.length.value) = elim large [ inl a ↦ inl (omega arith) | inr a ↦ inr (omega arith) ] in
        record { not_malformed = λ e. cc; not_truncated = λ e. cc; fault = λ fields. fault_large fields limit offset rest (drop 1 rest) at_front x.0.length.value (drop x.1 rest) is.small is.octets large }

    pub wanted_by : 6 ≤ limit → offset < 2 ^ 64 → x.1 + x.0.length.value ≤ limit → offset + (x.1 + x.0.length.value) < 2 ^ 64 → IsWanted limit offset rest (x.1 + x.0.length.value)
    wanted_by room below within fits =
        let n = x.0.length.value in
        let whole : x.1 + n ≡ whole_length n = omega (arith, is.count_is) in
        rw whole
        (record {
          whole = λ long. has_whole limit offset room below rest (drop 1 rest) at_front x.1 n is long (omega arith) (omega arith);
          awaits = λ short. awaits_content limit offset room below rest (drop 1 rest) at_front x.1 n is short (omega arith) (omega arith);
        })

  pub wanted_cut : 6 ≤ limit → offset < 2 ^ 64 → Scans rest (Ok None) → IsWanted limit offset rest (length rest + 1)
  wanted_cut room below h = record { whole = λ long. absurd (omega arith); awaits = λ short. awaits_header limit offset room below rest (drop 1 rest) at_front h }

-- Part 5: a value that is all of the bytes.

-- The offset of the content, if the scanned SEQUENCE is all of the bytes.
pub content_at : (rest : List ℕ) → 1 ≤ length rest → get_or rest 0 0 ≡ 0x30 → IsBytes rest → (x : Header × ℕ) → Scans rest (Ok (Some x))
    → x.1 + x.0.length.value ≡ length rest → length rest < 2 ^ 32 → IsContentAt rest x.1
content_at rest some first bytes x h all small =
    let is = headed rest (drop 1 rest) (first_is rest some first) bytes x h in
    let n : x.0.length.value ≡ length (drop x.1 rest) = omega (arith, all, h.1, length-drop x.1 rest) in
    record {
      fits = omega arith;
      whole = is.octets ∙ ap (λ (m : ℕ). head_octets tags.Sequence m ++ drop x.1 rest) n;
      start_is = is.count_is ∙ ap (λ (m : ℕ). length (head_octets tags.Sequence m)) n;
    }

module _ (rest : List ℕ) (fields : Body) (v : Value (sequence fields)) (s : Spells (sequence fields) v rest) where
  all_of : Begun fields rest v []
  all_of = begun fields rest v [] s.valid (rw append-nil s.octets)

  pub spelled_some : length rest < 1 → ⊥
  spelled_some none = omega (arith, none, ap length all_of.first)

  pub spelled_first : get_or rest 0 0 ≡ 0x30
  spelled_first = ap (λ (l : List ℕ). get_or l 0 0) all_of.first

  pub spelled_read : (k : ErrorKind) → head_at rest ≡ Err k → ⊥
  spelled_read k e = cc (e, all_of.read)

  pub spelled_small : length rest < 2 ^ 32
  spelled_small = omega (arith, value-fits fields v s.valid, ap length s.octets)

  pub spelled_whole : (x : Header × ℕ) → Scans rest (Ok (Some x)) → x.1 + x.0.length.value ≡ length rest
  spelled_whole x h =
      let body = all_of.body in
      let both = ok_is (record { tag = tags.Sequence; len = length body }, body ++ []) (head_of x.0, drop x.1 rest) (sym all_of.read ∙ h.0) in
      let number : length body ≡ x.0.length.value = ap (λ (q : Head × List ℕ). q.0.len) both in
      let left : body ++ [] ≡ drop x.1 rest = ap (λ (q : Head × List ℕ). q.1) both in
      omega (arith, h.1, number, ap length left, length-append body [], length-drop x.1 rest)
