-- Lemmas for `encoded_value`: it returns what the decoder returns for the bytes of the digits.
use Rattle.std.proofs.Common.{◌≡◌, ℕ, List, [], ◌∷◌, length, take, drop, Bool, true, false, Result, Ok, Err, refl, sym, ap, nat_lt, arith, if◌then◌else◌}
use Rattle.std.proofs.lemmas.Bool.Decides.{nat_tests}
use Rattle.std.proofs.lemmas.List.{length-drop, take_all}
use Rattle.der_core.specs.ErrorTypes.ErrorKind.{ErrorKind}
use Rattle.der_core.specs.ErrorTypes.ErrorKind.TheVariants as kinds
use Rattle.der_core.specs.Grammar.{read_whole, any_at, slice_at, whole}
use Rattle.der_core.specs.Heads.{Head, head_at}
use Rattle.der_core.specs.Limits.{length_max}
use Rattle.der_core.specs.Octets.{◌>>=◌}
use Rattle.der_core.specs.Shapes.{AnyValue, any}
use Rattle.x509_cert_name_texts.specs.Escapes.{hex_octets}
use Rattle.x509_cert_names.specs.ValueTexts.{behind_head, encoded_value}

abbrev held : Head → List ℕ → AnyValue
held h w = record { tag = h.tag; contents = w }

-- The decoded value, if no bytes follow it.
abbrev alone : Head → Result (List ℕ × List ℕ) ErrorKind → Result AnyValue ErrorKind
alone h s = (s >>= λ x. Ok (held h x.0, x.1)) >>= whole >>= λ v. Ok v.0

left_over : (h : Head) (w rest : List ℕ) → drop h.len w ≡ rest → nat_lt (length w) h.len ≡ false → alone h (Ok (take h.len w, rest)) ≡ (if nat_lt h.len (length w) then Err kinds.TrailingData else Ok (held h w))
left_over h w [] e f = grind (arith, nat_tests, take_all h.len w, ap length e, length-drop h.len w)
left_over h w (b ∷ rest) e f = grind (arith, nat_tests, ap length e, length-drop h.len w)

behind : (h : Head) (w : List ℕ) → behind_head h w ≡ alone h (slice_at h.len w)
unfolding slice_at
behind h w = by (nat_lt (length w) h.len) refl
  where
    by : (b : Bool) → nat_lt (length w) h.len ≡ b → (if b then Err kinds.Incomplete else if nat_lt h.len (length w) then Err kinds.TrailingData else Ok (held h w)) ≡ alone h (if b then Err kinds.Incomplete else Ok (take h.len w, drop h.len w))
    by true e = refl
    by false e = sym (left_over h w (drop h.len w) refl e)

pub encoded_is : (digits : List ℕ) → encoded_value digits ≡ (hex_octets digits >>= read_whole any >>= λ v. Ok v.0)
unfolding encoded_value read_whole any_at
encoded_is digits = by (hex_octets digits)
  where
    headed : (r : Result (Head × List ℕ) ErrorKind) → (r >>= λ h. behind_head h.0 h.1) ≡ ((r >>= λ h. slice_at h.0.len h.1 >>= λ x. Ok (held h.0 x.0, x.1)) >>= whole >>= λ v. Ok v.0)
    headed (Err e) = refl
    headed (Ok h) = behind h.0 h.1

    counted : (b : Bool) (w : List ℕ) → (if b then Err kinds.Overflow else (head_at w >>= λ h. behind_head h.0 h.1)) ≡ ((if b then Err kinds.Overflow else ((head_at w >>= λ h. slice_at h.0.len h.1 >>= λ x. Ok (held h.0 x.0, x.1)) >>= whole)) >>= λ v. Ok v.0)
    counted true w = refl
    counted false w = headed (head_at w)

    by : (r : Result (List ℕ) ErrorKind) → (r >>= λ w. if nat_lt length_max (length w) then Err kinds.Overflow else (head_at w >>= λ h. behind_head h.0 h.1)) ≡ (r >>= read_whole any >>= λ v. Ok v.0)
    by (Err e) = refl
    by (Ok w) = counted (nat_lt length_max (length w)) w
