-- Laws about prefixes that are tried, and about chains that grow by one certificate.
use Rattle.std.proofs.Common.{◌≡◌, ℕ, ◌+◌, ◌^◌, ◌<◌, ◌≤◌, List, [], ◌∷◌, ◌++◌, length, take, drop, refl, sym, ap, ◌∙◌, arith, append_assoc, length-append}
use Rattle.std.proofs.lemmas.List.{take-append-drop, length-take-le, length-drop, take_at, drop-drop}
use Rattle.der_core.specs.Shapes.{Spells}
use Rattle.cert_desk_checking.specs.CertCertificates.Certificates.{PlainCertificate, raw_certificate}
use Rattle.cert_desk_checking.specs.CertCertificates.Certificates.{certificate_octets}
use Rattle.cert_desk_checking.specs.DeskBundle.Chains.{Stands, Chain, joined}
use Rattle.cert_desk_checking.specs.DeskBundle.Faults.{Split}
use Rattle.cert_desk_checking.proofs.Encodings.{certificate_octets-first}
use Rattle.cert_desk_checking.proofs.DeskBundle.Readings.{joined-more, Chain-more}
use Rattle.cert_desk_checking.proofs.DeskBundle.SeriesLaws.{each-last}
use Rattle.test_cert_rows.specs.SplitFronts.{Front, NoFront}

-- The encoding of a certificate isn't empty.
octets-some : (bound : ℕ) (c : PlainCertificate) → 0 < length (certificate_octets bound c)
octets-some bound c = let f = certificate_octets-first bound c in omega (arith, ap length f.1)

-- A prefix that encodes a certificate.
pub front_of : (bound limit : ℕ) (octets : List ℕ) (c : PlainCertificate) (n : ℕ) → n ≤ limit → n ≤ length octets → Spells (raw_certificate bound) c (take n octets) → Front bound limit octets c n
front_of bound limit octets c n w t s =
    let some = octets-some bound c in
    record { some = omega (arith, ap length s.octets, length-take-le n octets t); within = w; there = t; spelled = s }

-- If no prefix within the limit encodes a certificate, the bytes don't begin with one that may be
-- in a chain.
pub no_front : (bound limit : ℕ) (octets : List ℕ)
    → ((k : ℕ) → k ≤ limit → k ≤ length octets → (c : PlainCertificate) → Spells (raw_certificate bound) c (take k octets) → ⊥)
    → NoFront bound limit octets
no_front bound limit octets none c more stands e =
    let n = length (certificate_octets bound c) in
    let there : n ≤ length octets = omega (arith, ap length e, length-append (certificate_octets bound c) more) in
    none n stands.within there c (record { valid = stands.valid; octets = ap (take n) e ∙ take_at (certificate_octets bound c) more n refl })

-- The certificates so far, and the remaining bytes.
pub record SoFar (bound limit : ℕ) (stream : List ℕ) (cs : List PlainCertificate) (start : ℕ) : Type 0 where
  pub within : start ≤ length stream
  pub front : Chain bound limit cs (joined bound cs)
  pub whole : stream ≡ joined bound cs ++ drop start stream

pub so_far-start : (bound limit : ℕ) (stream : List ℕ) → SoFar bound limit stream [] 0
so_far-start bound limit stream = record { within = omega arith; front = record { each = tt; joins = refl; fits = omega arith }; whole = refl }

pub so_far-more : (bound limit : ℕ) (stream : List ℕ) (cs : List PlainCertificate) (start : ℕ) (c : PlainCertificate) (n : ℕ)
    → length stream < 2 ^ 64 → SoFar bound limit stream cs start → Front bound limit (drop start stream) c n → SoFar bound limit stream (cs ++ c ∷ []) (start + n)
so_far-more bound limit stream cs start c n fits s f =
    let rest = drop start stream in
    let octets : take n rest ≡ certificate_octets bound c = f.spelled.octets in
    let whole : stream ≡ joined bound (cs ++ c ∷ []) ++ drop (start + n) stream =
    s.whole
    ∙ ap (λ (x : List ℕ). joined bound cs ++ x) (sym (take-append-drop n rest))
    ∙ sym (append_assoc (joined bound cs) (take n rest) (drop n rest))
    ∙ ap (λ (x : List ℕ). (joined bound cs ++ x) ++ drop n rest) octets
    ∙ ap (λ (x : List ℕ). x ++ drop n rest) (sym (joined-more bound cs c))
    ∙ ap (λ (x : List ℕ). joined bound (cs ++ c ∷ []) ++ x) (drop-drop n start stream) in
    let len : length (certificate_octets bound c) ≡ n = sym (ap length octets) ∙ length-take-le n rest f.there in
    let left : length rest + start ≡ length stream = omega (arith, length-drop start stream, s.within) in
    record {
      within = omega (arith, f.there);
      front = Chain-more bound limit cs c s.front (record { valid = f.spelled.valid; within = omega (arith, f.within) })
          (omega (arith, ap length whole, length-append (joined bound (cs ++ c ∷ [])) (drop (start + n) stream)));
      whole = whole;
    }

pub split_of : (bound limit : ℕ) (stream : List ℕ) (cs : List PlainCertificate) (start : ℕ) → SoFar bound limit stream cs start → NoFront bound limit (drop start stream) → Split bound limit stream cs (drop start stream)
split_of bound limit stream cs start s none = record {
  front = s.front;
  whole = s.whole;
  longest = λ c more chain e. none c more (each-last (Stands bound limit) cs c chain.each) e;
}
