-- An error of an input is also the error of every longer input.
use Rattle.std.proofs.Common.{◌≡◌, ◌≢◌, ℕ, ◌+◌, ◌^◌, ◌<◌, ◌≤◌, List, [], ◌∷◌, ◌++◌, length, take, Err, refl, sym, ap, subst, ◌∙◌, arith, inl, inr, append_assoc}
use Rattle.std.proofs.lemmas.Bool.{cases_lt}
use Rattle.x509_cert_certificates.specs.Der.ErrorTypes.ErrorKind.{ErrorKind}
use Rattle.x509_cert_certificates.specs.Der.ErrorTypes.ErrorKind.TheVariants as errors
use Rattle.x509_cert_certificates.specs.Der.TagTypes.Tag.TheVariants as tags
use Rattle.x509_cert_certificates.specs.Der.Heads.{head_octets, head_at}
use Rattle.x509_cert_certificates.specs.Der.Shapes.{Shape, Body, Value, sequence}
use Rattle.x509_cert_certificates.proofs.Der.LeafLaws.{fault_stays as head_fault_stays}
use Rattle.x509_cert_certificates.specs.Certificates.{PlainCertificate, raw_certificate_fields}
use Rattle.cert_desk_bundle.specs.declared.fault_kind.FaultKind.{FaultKind}
use Rattle.cert_desk_bundle.specs.declared.fault_kind.FaultKind.TheVariants as kinds
use Rattle.cert_desk_bundle.specs.Series.{encodings}
use Rattle.cert_desk_bundle.specs.Faults.{whole_length, rank, IsFault, SeriesFault, StreamFault}
use Rattle.cert_desk_bundle.specs.Headers.{HasWhole, IsEarlyFault, fault_of}
use Rattle.cert_desk_bundle.proofs.Scans.{heads, says_some, fault_first, fault_head, fault_large}
use Rattle.cert_desk_bundle.proofs.SeriesReading.{reads_fault}
use Rattle.cert_desk_bundle.proofs.WholeValues.{whole-take, whole_malformed}

-- For every kind but the first, the first byte is the tag of a SEQUENCE.
sequence_first : (s : Shape) (limit offset : ℕ) (kind : FaultKind) (rest : List ℕ) → 1 < rank kind → IsFault s limit offset kind rest → (v : List ℕ) × (rest ≡ 0x30 ∷ v)
sequence_first s limit offset kind [] h f = absurd (says_some s limit offset kind f.says)
sequence_first s limit offset kind (b ∷ v) h f =
    elim (cases_lt b 0x30) [
      | inl below ↦ absurd (f.first kinds.NoCertificate h (b, v, refl, λ e. omega arith))
      | inr from ↦ elim (cases_lt 0x30 b) [
        | inl above ↦ absurd (f.first kinds.NoCertificate h (b, v, refl, λ e. omega arith))
        | inr to ↦ let is : b ≡ 0x30 = omega arith in (v, ap (λ x. x ∷ v) is)
      ]
    ]

module _ (fields : Body) (limit offset : ℕ) (rest more : List ℕ) where
  head_stays : (kind : FaultKind) (k : ErrorKind) → 1 < rank kind → head_at rest ≡ Err k → k ≢ errors.Incomplete → IsFault (sequence fields) limit offset kind rest → IsFault (sequence fields) limit offset (fault_of k) (rest ++ more)
  head_stays kind k h e other f =
      let first = sequence_first (sequence fields) limit offset kind rest h f in
      fault_head fields limit offset (rest ++ more) (first.0 ++ more) (ap (λ x. x ++ more) first.1) k (head_fault_stays k rest more e other) other

  large_stays : IsFault (sequence fields) limit offset kinds.TooLarge rest → IsFault (sequence fields) limit offset kinds.TooLarge (rest ++ more)
  large_stays f =
      let s = f.says in
      let first = sequence_first (sequence fields) limit offset kinds.TooLarge rest (omega arith) f in
      fault_large fields limit offset (rest ++ more) (first.0 ++ more) (ap (λ x. x ++ more) first.1) s.0 (s.1 ++ more) s.2
      (ap (λ (x : List ℕ). x ++ more) s.3 ∙ append_assoc (head_octets tags.Sequence s.0) s.1 more) s.4

  malformed_stays : IsFault (sequence fields) limit offset kinds.Malformed rest → IsFault (sequence fields) limit offset kinds.Malformed (rest ++ more)
  malformed_stays f =
      let s = f.says in
      let n = s.0 in
      let there : rest ≡ head_octets tags.Sequence n ++ (s.1 ++ s.2) = s.4 ∙ append_assoc (head_octets tags.Sequence n) s.1 s.2 in
      let within : whole_length n ≤ limit =
      elim (cases_lt limit (whole_length n)) [ inl h ↦ absurd (f.first kinds.TooLarge (omega arith) (n, s.1 ++ s.2, s.3, there, inl h)) | inr h ↦ h ] in
      let fits : offset + whole_length n < 2 ^ 64 =
      elim (cases_lt (offset + whole_length n) (2 ^ 64)) [ inl h ↦ h | inr h ↦ absurd (f.first kinds.TooLarge (omega arith) (n, s.1 ++ s.2, s.3, there, inr h)) ] in
      let whole : HasWhole limit offset (rest ++ more) (whole_length n) = record {
        number = n;
        body = s.1;
        more = s.2 ++ more;
        small = s.3;
        octets = ap (λ (x : List ℕ). x ++ more) s.4 ∙ append_assoc (head_octets tags.Sequence n ++ s.1) s.2 more;
        content = s.5;
        len_is = refl;
        within = within;
        fits = fits;
      } in
      let front : take (whole_length n) (rest ++ more) ≡ head_octets tags.Sequence n ++ s.1 = whole-take fields limit offset (rest ++ more) (whole_length n) whole in
      whole_malformed fields limit offset (rest ++ more) (whole_length n) whole (λ c spelled. s.6 c spelled.valid (sym spelled.octets ∙ front))

  pub IsFault-stays : (kind : FaultKind) → kind ≢ kinds.Truncated → IsFault (sequence fields) limit offset kind rest → IsFault (sequence fields) limit offset kind (rest ++ more)
  IsFault-stays kinds.NoCertificate ne f =
      let s = f.says in
      subst (λ (x : List ℕ). IsFault (sequence fields) limit offset kinds.NoCertificate x) (sym (ap (λ (x : List ℕ). x ++ more) s.2)) (fault_first fields limit offset s.0 (s.1 ++ more) s.3)
  IsFault-stays kinds.Indefinite ne f = head_stays kinds.Indefinite errors.IndefiniteLength (omega arith) (heads (sequence fields) limit offset kinds.Indefinite rest f.says) (λ x. absurd cc) f
  IsFault-stays kinds.LengthTooWide ne f = head_stays kinds.LengthTooWide errors.Overlength (omega arith) (heads (sequence fields) limit offset kinds.LengthTooWide rest f.says) (λ x. absurd cc) f
  IsFault-stays kinds.LengthNotShortest ne f = head_stays kinds.LengthNotShortest (errors.Length tags.Sequence) (omega arith) (heads (sequence fields) limit offset kinds.LengthNotShortest rest f.says) (λ x. absurd cc) f
  IsFault-stays kinds.TooLarge ne f = large_stays f
  IsFault-stays kinds.Malformed ne f = malformed_stays f
  IsFault-stays kinds.Truncated ne f = absurd (ne refl)

-- For every SEQUENCE, an error of its header stays when bytes follow.
pub early_stays : (limit offset : ℕ) (rest more : List ℕ) (kind : FaultKind) → IsEarlyFault limit offset rest kind → IsEarlyFault limit offset (rest ++ more) kind
early_stays limit offset rest more kind f = record {
  not_malformed = f.not_malformed;
  not_truncated = f.not_truncated;
  fault = λ b. IsFault-stays b limit offset rest more kind f.not_truncated (f.fault b);
}

pub series_fault_stays : (fields : Body) (limit : ℕ) (vs : List (Value (sequence fields))) (kind : FaultKind) (stream more : List ℕ) → kind ≢ kinds.Truncated
    → SeriesFault (sequence fields) limit stream vs kind → SeriesFault (sequence fields) limit (stream ++ more) vs kind
series_fault_stays fields limit vs kind stream more ne f =
    let s = sequence fields in
    reads_fault fields limit vs (f.rest ++ more) (stream ++ more) f.split.front
    (ap (λ (x : List ℕ). x ++ more) f.split.whole ∙ append_assoc (encodings s vs) f.rest more)
    kind ne (IsFault-stays fields limit (length (encodings s vs)) f.rest more kind ne f.fault)

pub fault_stays : (bound limit : ℕ) (cs : List PlainCertificate) (kind : FaultKind) (stream more : List ℕ) → kind ≢ kinds.Truncated → StreamFault bound limit stream cs kind → StreamFault bound limit (stream ++ more) cs kind
fault_stays bound limit cs kind stream more ne f = series_fault_stays (raw_certificate_fields bound) limit cs kind stream more ne f
