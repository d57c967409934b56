-- Bytes are the encoding of exactly one value, or of none.
use Rattle.std.proofs.Common.{◌≡◌, ℕ, List, [], ◌∷◌, Bool, true, false, Result, Ok, Err, refl, sym, ap, subst, ◌∙◌, ltb, length}
use Rattle.std.proofs.lemmas.Bool.{and_parts, ltb-true, lt-ltb}
use Rattle.x509_cert_certificates.specs.Der.ErrorTypes.ErrorKind.{ErrorKind}
use Rattle.x509_cert_certificates.specs.Der.ErrorTypes.ErrorKind.TheVariants as kinds
use Rattle.x509_cert_certificates.specs.Der.Octets.{IsOctets, are_octets, ◌>>=◌}
use Rattle.x509_cert_certificates.specs.Der.Limits.{length_max, levels_max}
use Rattle.x509_cert_certificates.specs.Der.Grammar.{read, read_whole, whole}
use Rattle.x509_cert_certificates.specs.Der.Shapes.{Shape, Value, Spells, octets_of}
use Rattle.x509_cert_certificates.specs.Der.Spelling.{is_apart, are_enough}
use Rattle.der_core.proofs.DecodingLaws.{IsBytes, ok_is, bind_ok, unless_ok, whole_ok}
use Rattle.der_core.proofs.DecodingLaws.{is_spelled, whole_again, octets_below, bytes_are}
use Rattle.cert_desk_bundle.specs.Decoding.{Decoding, decodes_to, decodes_to_none}

-- The value that is decoded from all bytes has this encoding.
pub whole_spells : (s : Shape) (w : List ℕ) (v : Value s) (r : List ℕ) → is_apart s ≡ true → IsBytes w → read_whole s w ≡ Ok (v, r) → Spells s v w
unfolding read_whole
whole_spells s w v r apart bytes e =
    let h = unless_ok (ltb length_max (length w)) kinds.Overflow (read s levels_max w >>= whole) (v, r) e in
    let x = bind_ok (read s levels_max w) whole (v, r) h.1 in
    let o = whole_ok x.0 (v, r) x.2 in
    let none : r ≡ [] = sym (ap (λ (q : Value s × List ℕ). q.1) o.0) ∙ o.1 in
    is_spelled s (λ u. u) w (Ok v) apart bytes (e ∙ ap (λ (q : List ℕ). Ok (v, q)) none)

are-octets : (w : List ℕ) → IsOctets w → are_octets w ≡ true
are-octets [] h = refl
are-octets (b ∷ w) h = rw (lt-ltb b 256 h.0, are-octets w h.1) refl

octets-are : (w : List ℕ) → are_octets w ≡ true → IsOctets w
octets-are [] h = tt
octets-are (b ∷ w) h =
    let both = and_parts (ltb b 256) (are_octets w) h in
    (ltb-true b 256 both.0, octets-are w both.1)

-- The decoding of bytes, for a shape whose values can be distinguished.
pub decoding : (s : Shape) (w : List ℕ) → is_apart s ≡ true → are_enough s levels_max ≡ true → Decoding s w
decoding s w apart enough = by (are_octets w) (read_whole s w) refl refl
  where
    by : (b : Bool) (r : Result (Value s × List ℕ) ErrorKind) → are_octets w ≡ b → read_whole s w ≡ r → Decoding s w
    by false r not e = decodes_to_none (λ v h. absurd (cc (not, are-octets w (subst IsOctets (sym h.octets) (octets_below s v h.valid)))))
    by true (Ok p) are e = decodes_to p.0 (whole_spells s w p.0 p.1 apart (bytes_are w (octets-are w are)) e)
    by true (Err k) are e = decodes_to_none (λ v h. absurd (cc (e, whole_again s v w apart enough h)))

-- Two values with the same encoding are equal.
pub decodes_once : (s : Shape) (u v : Value s) (w : List ℕ) → is_apart s ≡ true → are_enough s levels_max ≡ true → Spells s u w → Spells s v w → u ≡ v
decodes_once s u v w apart enough h k = ap (λ (q : Value s × List ℕ). q.0) (ok_is (u, []) (v, []) (sym (whole_again s u w apart enough h) ∙ whole_again s v w apart enough k))
