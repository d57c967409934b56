-- The result of reading a series: values, and a remainder that is incomplete or has an error.
use Rattle.std.proofs.Common.{◌≡◌, ◌≢◌, ℕ, ◌+◌, ◌^◌, ◌<◌, List, [], ◌∷◌, ◌++◌, length, refl, ap, arith, length-append}
use Rattle.x509_cert_certificates.specs.Der.Shapes.{Shape, Body, Value, octets_of, sequence}
use Rattle.cert_desk_bundle.specs.declared.fault_kind.FaultKind.{FaultKind}
use Rattle.cert_desk_bundle.specs.declared.fault_kind.FaultKind.TheVariants as kinds
use Rattle.cert_desk_bundle.specs.declared.standing.Standing.TheVariants as standings
use Rattle.cert_desk_bundle.specs.Series.{MayStand, Series, encodings}
use Rattle.cert_desk_bundle.specs.Faults.{IsFault}
use Rattle.cert_desk_bundle.specs.Headers.{IsUnfinished}
use Rattle.cert_desk_bundle.specs.Streams.{ReadsSeries}
use Rattle.cert_desk_bundle.proofs.Scans.{unfinished_none, fault_none}
use Rattle.cert_desk_bundle.proofs.SeriesLaws.{each-last, encodings-more}

module _ (s : Shape) (limit : ℕ) (vs : List (Value s)) (rest stream : List ℕ) (front : Series s limit vs (encodings s vs)) (whole : stream ≡ encodings s vs ++ rest) where
  -- An incomplete remainder doesn't begin with a value.
  pub reads_unfinished : IsUnfinished s limit (length (encodings s vs)) rest → ReadsSeries s limit standings.Open vs rest stream
  reads_unfinished u = (record { front = front; whole = whole; longest = λ v more k e. u.none v more (each-last (MayStand s limit) vs v k.each) e }, u.sound)

module _ (fields : Body) (limit : ℕ) where
  pub reads_nothing : ReadsSeries (sequence fields) limit standings.Open [] [] []
  reads_nothing =
      reads_unfinished (sequence fields) limit [] [] [] (record { each = tt; joins = refl; fits = omega arith }) refl (unfinished_none fields limit 0)

  module _ (vs : List (Value (sequence fields))) (rest : List ℕ) where
    -- A remainder with an error doesn't begin with a value.
    pub fault-longest : (kind : FaultKind) → kind ≢ kinds.Truncated → IsFault (sequence fields) limit (length (encodings (sequence fields) vs)) kind rest
        → (v : Value (sequence fields)) (more : List ℕ) → Series (sequence fields) limit (vs ++ v ∷ []) (encodings (sequence fields) (vs ++ v ∷ [])) → rest ≡ octets_of (sequence fields) v ++ more → ⊥
    fault-longest kind ne f v more k e =
        let s = sequence fields in
        let fits : length (encodings s vs) + length (octets_of s v) < 2 ^ 64 =
        omega (arith, k.fits, ap length (encodings-more s vs v), length-append (encodings s vs) (octets_of s v)) in
        fault_none fields limit (length (encodings s vs)) kind rest ne f.says v more (each-last (MayStand s limit) vs v k.each) fits e

    pub reads_fault : (stream : List ℕ) → Series (sequence fields) limit vs (encodings (sequence fields) vs) → stream ≡ encodings (sequence fields) vs ++ rest
        → (kind : FaultKind) → kind ≢ kinds.Truncated → IsFault (sequence fields) limit (length (encodings (sequence fields) vs)) kind rest
        → ReadsSeries (sequence fields) limit (standings.Faulted kind) vs rest stream
    reads_fault stream front whole kind ne f = record { rest = rest; split = record { front = front; whole = whole; longest = fault-longest kind ne f }; fault = f }
