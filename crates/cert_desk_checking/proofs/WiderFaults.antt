-- Errors of an input under a larger bound of arcs.
use Rattle.std.proofs.Common.{◌≡◌, ◌≢◌, ℕ, ◌+◌, ◌<◌, ◌≤◌, ◌^◌, ◌⊎◌, inl, inr, List, [], ◌∷◌, ◌++◌, length, Result, Ok, Err, refl, sym, ap, ◌∙◌, subst, arith, append_assoc, length-append}
use Rattle.std.proofs.lemmas.Bool.{cases_lt}
use Rattle.x509_cert_anchors.specs.Der.ErrorTypes.ErrorKind.{ErrorKind}
use Rattle.x509_cert_anchors.specs.Der.TagTypes.Tag.TheVariants as tags
use Rattle.x509_cert_anchors.specs.Der.Bounds.{HoldsLarge}
use Rattle.x509_cert_anchors.specs.Der.Grammar.{read_whole}
use Rattle.x509_cert_anchors.specs.Der.Heads.{head_octets, tlv}
use Rattle.x509_cert_anchors.specs.Der.Octets.{IsOctets}
use Rattle.x509_cert_anchors.specs.Der.Shapes.{IsValid, Spells, body_octets, contents, octets_of}
use Rattle.x509_cert_anchors.proofs.Der.OneEncoding.{is_spelled, whole_again, bytes_are, octets_below}
use Rattle.x509_cert_anchors.proofs.Der.HeadLaws.{valid_fits}
use Rattle.x509_cert_anchors.specs.CertCertificates.Certificates.{PlainCertificate, raw_certificate}
use Rattle.x509_cert_anchors.specs.CertCertificates.Certificates.{raw_certificate_fields}
use Rattle.cert_desk_rules.specs.DeskBundle.declared.fault_kind.FaultKind.{FaultKind}
use Rattle.cert_desk_rules.specs.DeskBundle.declared.fault_kind.FaultKind.TheVariants as kinds
use Rattle.cert_desk_checking.specs.Bounded.{identifiers_in}
use Rattle.cert_desk_rules.specs.DeskBundle.Chains.{Chain, Stands, joined}
use Rattle.cert_desk_rules.specs.DeskBundle.Faults.{IsFault, NoneBefore, Says, StreamFault, whole_length}
use Rattle.cert_desk_rules.specs.DeskBundle.Series.{BeginsSeries}
use Rattle.cert_desk_rules.proofs.DeskBundle.SeriesLaws.{Series-more, each-last, encodings-more}
use Rattle.cert_desk_rules.proofs.DeskBundle.SeriesReading.{reads_fault}
use Rattle.cert_desk_checking.proofs.TwoBounds.{certificate_or_large, certificate_wider, chain_wider, leaves_none, same_encoding, same_joined}

-- Numbers are all bytes, or not all of them are.
octets_or_not : (w : List ℕ) → IsOctets w ⊎ (IsOctets w → ⊥)
octets_or_not [] = inl tt
octets_or_not (b ∷ w) =
    elim (cases_lt b 256) [
      | inl below ↦ elim (octets_or_not w) [ inl all ↦ inl (below, all) | inr none ↦ inr (λ h. none h.1) ]
      | inr above ↦ inr (λ h. let below = h.0 in absurd (omega arith))
    ]

-- Bytes are the encoding of a certificate, or of none.
spelled_or_not : (bound : ℕ) (w : List ℕ)
    → ((c : PlainCertificate) × Spells (raw_certificate bound) c w) ⊎ ((c : PlainCertificate) → IsValid (raw_certificate bound) c → octets_of (raw_certificate bound) c ≡ w → ⊥)
spelled_or_not bound w =
    elim (octets_or_not w) [
      | inl all ↦ by all (read_whole (raw_certificate bound) w) refl
      | inr none ↦ inr (λ c valid e. none (subst IsOctets e (octets_below (raw_certificate bound) c valid)))
    ]
  where
    by : IsOctets w → (r : Result (PlainCertificate × List ℕ) ErrorKind) → read_whole (raw_certificate bound) w ≡ r
        → ((c : PlainCertificate) × Spells (raw_certificate bound) c w) ⊎ ((c : PlainCertificate) → IsValid (raw_certificate bound) c → octets_of (raw_certificate bound) c ≡ w → ⊥)
    by all (Ok p) e =
        inl (p.0, is_spelled (raw_certificate bound) (λ c. c) w (Ok p.0) refl (bytes_are w all) (leaves_none (raw_certificate bound) w p.0 p.1 e))
    by all (Err d) e = inr (λ c valid same. absurd (cc (whole_again (raw_certificate bound) c w refl refl (record { valid = valid; octets = sym same }), e)))

abbrev body : ℕ → PlainCertificate → List ℕ
body bound c = body_octets (raw_certificate_fields bound) c

-- A certificate is a header and a content, whose length fits.
headed : (bound : ℕ) (c : PlainCertificate) → octets_of (raw_certificate bound) c ≡ head_octets tags.Sequence (length (body bound c)) ++ body bound c
unfolding octets_of contents tlv
headed bound c = refl

counted : (bound : ℕ) (c : PlainCertificate) → IsValid (raw_certificate bound) c → length (body bound c) < 2 ^ 32
counted bound c valid =
    omega (
      arith,
      valid_fits (raw_certificate bound) c valid,
      ap length (headed bound c),
      length-append (head_octets tags.Sequence (length (body bound c))) (body bound c),
    )

module _ (small large : ℕ) (le : small ≤ large) (limit : ℕ) (cs : List PlainCertificate) (rest : List ℕ) where
  abbrev offset : ℕ
  offset = length (joined small cs)

  -- A kind of error that applies under the larger bound applies under the smaller one.
  says_narrow : (kind : FaultKind) → Says (raw_certificate large) limit offset kind rest → Says (raw_certificate small) limit offset kind rest
  says_narrow kinds.NoCertificate s = s
  says_narrow kinds.Indefinite s = s
  says_narrow kinds.LengthTooWide s = s
  says_narrow kinds.LengthNotShortest s = s
  says_narrow kinds.TooLarge s = s
  says_narrow kinds.Malformed s =
      (s.0, s.1, s.2, s.3, s.4, s.5, λ c valid e. s.6 c (certificate_wider small large c le valid) (sym (same_encoding small large c) ∙ e))
  says_narrow kinds.Truncated s = s

  first_wider : (kind : FaultKind) → NoneBefore (raw_certificate small) limit offset kind rest → NoneBefore (raw_certificate large) limit offset kind rest
  first_wider kind first = λ other before s. first other before (says_narrow other s)

  module _ (stream : List ℕ) (front : Chain small limit cs (joined small cs)) (whole : stream ≡ joined small cs ++ rest) where
    front_wider : Chain large limit cs (joined large cs)
    front_wider = subst (λ (s : List ℕ). Chain large limit cs s) (same_joined small large cs) (chain_wider small large limit cs (joined small cs) le front)

    whole_wider : stream ≡ joined large cs ++ rest
    whole_wider = whole ∙ ap (λ (s : List ℕ). s ++ rest) (same_joined small large cs)

    fault_wider : (kind : FaultKind) → IsFault (raw_certificate large) limit offset kind rest → IsFault (raw_certificate large) limit (length (joined large cs)) kind rest
    fault_wider kind f = subst (λ (s : List ℕ). IsFault (raw_certificate large) limit (length s) kind rest) (same_joined small large cs) f

    -- An error before the end of the input.
    goes_on : (kind : FaultKind) → kind ≢ kinds.Truncated → Says (raw_certificate large) limit offset kind rest → NoneBefore (raw_certificate small) limit offset kind rest
        → StreamFault large limit stream cs kind
    goes_on kind ne says first =
        reads_fault (raw_certificate_fields large) limit cs rest stream front_wider whole_wider kind ne
        (fault_wider kind (record { says = says; first = first_wider kind first }))

    abbrev OrBegins : FaultKind → Type 0
    OrBegins kind = StreamFault large limit stream cs kind ⊎ ((c : PlainCertificate) × BeginsSeries (raw_certificate large) limit (cs ++ c ∷ []) stream × HoldsLarge small (identifiers_in c))

    -- A certificate that is only one under the larger bound.
    begins_wider : (c : PlainCertificate) (more : List ℕ) → Stands large limit c → offset + length (octets_of (raw_certificate large) c) < 2 ^ 64
        → rest ≡ octets_of (raw_certificate large) c ++ more → BeginsSeries (raw_certificate large) limit (cs ++ c ∷ []) stream
    begins_wider c more stands fits e =
        let s = raw_certificate large in
        let longer : joined large (cs ++ c ∷ []) ≡ joined large cs ++ octets_of s c = encodings-more s cs c in
        let size : length (joined large (cs ++ c ∷ [])) < 2 ^ 64 =
        omega (arith, fits, ap length longer, length-append (joined large cs) (octets_of s c), ap length (same_joined small large cs)) in
        record {
          front = Series-more s limit cs c front_wider stands size;
          more = more;
          whole = whole_wider ∙ ap (λ (w : List ℕ). joined large cs ++ w) e ∙ sym (append_assoc (joined large cs) (octets_of s c) more) ∙ ap (λ (w : List ℕ). w ++ more) (sym longer);
        }

    -- A malformed value may be a certificate under the larger bound.
    malformed_wider : IsFault (raw_certificate small) limit offset kinds.Malformed rest → OrBegins kinds.Malformed
    malformed_wider f =
        let s = f.says in
        let w = head_octets tags.Sequence s.0 ++ s.1 in
        let there : rest ≡ head_octets tags.Sequence s.0 ++ (s.1 ++ s.2) = s.4 ∙ append_assoc (head_octets tags.Sequence s.0) s.1 s.2 in
        let within : whole_length s.0 ≤ limit =
        elim (cases_lt limit (whole_length s.0)) [ inl h ↦ absurd (f.first kinds.TooLarge (omega arith) (s.0, s.1 ++ s.2, s.3, there, inl h)) | inr h ↦ h ] in
        let fits : offset + whole_length s.0 < 2 ^ 64 =
        elim (cases_lt (offset + whole_length s.0) (2 ^ 64)) [ inl h ↦ h | inr h ↦ absurd (f.first kinds.TooLarge (omega arith) (s.0, s.1 ++ s.2, s.3, there, inr h)) ] in
        elim (spelled_or_not large w) [
          | inr none ↦ inl (goes_on kinds.Malformed (λ e. absurd cc) (s.0, s.1, s.2, s.3, s.4, s.5, none) f.first)
          | inl p ↦ elim (certificate_or_large small large p.0 p.1.valid) [
            | inl valid ↦ absurd (s.6 p.0 valid (same_encoding small large p.0 ∙ sym p.1.octets))
            | inr holds ↦
                let size : length (octets_of (raw_certificate large) p.0) ≡ whole_length s.0 = omega (arith, ap length p.1.octets, length-append (head_octets tags.Sequence s.0) s.1, s.5) in
                inr (
                  p.0,
                  begins_wider p.0 s.2 (record { valid = p.1.valid; within = omega (arith, size, within) }) (omega (arith, size, fits)) (s.4 ∙ ap (λ (x : List ℕ). x ++ s.2) p.1.octets),
                  holds,
                )
          ]
        ]

    -- An input that ends inside a certificate does so under the larger bound.
    truncated_wider : ((v : PlainCertificate) (more : List ℕ) → Chain small limit (cs ++ v ∷ []) (joined small (cs ++ v ∷ [])) → rest ≡ octets_of (raw_certificate small) v ++ more → ⊥)
        → IsFault (raw_certificate small) limit offset kinds.Truncated rest → StreamFault large limit stream cs kinds.Truncated
    truncated_wider longest f = record {
      rest = rest;
      split = record { front = front_wider; whole = whole_wider; longest = λ v more k e. f.first kinds.Malformed (omega arith) (unread v more k e) };
      fault = fault_wider kinds.Truncated (record { says = f.says; first = first_wider kinds.Truncated f.first });
    }
      where
        unread : (v : PlainCertificate) (more : List ℕ) → Chain large limit (cs ++ v ∷ []) (joined large (cs ++ v ∷ [])) → rest ≡ octets_of (raw_certificate large) v ++ more
            → Says (raw_certificate small) limit offset kinds.Malformed rest
        unread v more k e =
            let stands = each-last (Stands large limit) cs v k.each in (
              length (body large v),
              body large v,
              more,
              counted large v stands.valid,
              e ∙ ap (λ (x : List ℕ). x ++ more) (headed large v),
              refl,
              λ u valid same.
                  let one : octets_of (raw_certificate small) u ≡ octets_of (raw_certificate large) v = same ∙ sym (headed large v) in
                  let within : length (octets_of (raw_certificate small) u) ≤ limit = omega (arith, ap length one, stands.within) in
                  let size : length (joined small (cs ++ u ∷ [])) < 2 ^ 64 =
                  omega (
                    arith,
                    k.fits,
                    ap length (encodings-more (raw_certificate small) cs u),
                    length-append (joined small cs) (octets_of (raw_certificate small) u),
                    ap length (encodings-more (raw_certificate large) cs v),
                    length-append (joined large cs) (octets_of (raw_certificate large) v),
                    ap length one,
                    ap length (same_joined small large cs),
                  ) in
                  longest u more (Series-more (raw_certificate small) limit cs u front (record { valid = valid; within = within }) size)
                  (e ∙ ap (λ (x : List ℕ). x ++ more) (sym one)),
            )

    kind_wider : (kind : FaultKind) → ((v : PlainCertificate) (more : List ℕ) → Chain small limit (cs ++ v ∷ []) (joined small (cs ++ v ∷ [])) → rest ≡ octets_of (raw_certificate small) v ++ more → ⊥)
        → IsFault (raw_certificate small) limit offset kind rest → OrBegins kind
    kind_wider kinds.NoCertificate longest f = inl (goes_on kinds.NoCertificate (λ e. absurd cc) f.says f.first)
    kind_wider kinds.Indefinite longest f = inl (goes_on kinds.Indefinite (λ e. absurd cc) f.says f.first)
    kind_wider kinds.LengthTooWide longest f = inl (goes_on kinds.LengthTooWide (λ e. absurd cc) f.says f.first)
    kind_wider kinds.LengthNotShortest longest f = inl (goes_on kinds.LengthNotShortest (λ e. absurd cc) f.says f.first)
    kind_wider kinds.TooLarge longest f = inl (goes_on kinds.TooLarge (λ e. absurd cc) f.says f.first)
    kind_wider kinds.Malformed longest f = malformed_wider f
    kind_wider kinds.Truncated longest f = inl (truncated_wider longest f)

pub faults_wider : (small large limit : ℕ) (cs : List PlainCertificate) (kind : FaultKind) (stream : List ℕ) → small ≤ large → StreamFault small limit stream cs kind
    → StreamFault large limit stream cs kind ⊎ ((c : PlainCertificate) × BeginsSeries (raw_certificate large) limit (cs ++ c ∷ []) stream × HoldsLarge small (identifiers_in c))
faults_wider small large limit cs kind stream le f =
    kind_wider small large le limit cs f.rest stream f.split.front f.split.whole kind f.split.longest f.fault
