-- Strings in constructed form, whose content is a series of parts (X.690 8.7.3).
use Rattle.std.specs.Prelude.{ℕ, zero, suc, List, [], ◌∷◌, ◌++◌, length, Bool, true, false, ◌&&◌}
use Rattle.std.specs.Prelude.{Result, Ok, Err, ◌==◌, if◌then◌else◌}
use Rattle.der_core_head.specs.declared.error.ErrorKind.{ErrorKind}
use Rattle.der_core_head.specs.declared.error.ErrorKind.TheVariants as kinds
use Rattle.der_core_head.specs.declared.encoding_rules.EncodingRules.{EncodingRules}
use Rattle.der_core_head.specs.declared.encoding_rules.EncodingRules.TheVariants as encodings
use Rattle.der_core_head.specs.declared.tag.Tag.{Tag}
use Rattle.der_core_head.specs.Octets.{◌>>=◌, Readings}
use Rattle.der_core_head.specs.Heads.{head_at}
use Rattle.der_core_head.specs.Grammar.{slice_at, kept}
use Rattle.der_core_octets.specs.Headers.{wanted_at}

-- The content of a part, which is a DER encoding with this tag.
unfoldable pub part_at : Tag → Readings (List ℕ)
part_at t w = wanted_at t head_at w >>= λ h. slice_at h.0.len h.1

-- There is no further part: the bytes end here, or after the end-of-contents bytes (X.690 8.1.5).
abbrev pub are_closed : List ℕ → Bool
are_closed [] = true
are_closed (a ∷ []) = false
are_closed (a ∷ b ∷ []) = (a == 0) && (b == 0)
are_closed (a ∷ b ∷ c ∷ w) = false

-- The contents of at most `n` parts, appended to `front`.
unfoldable pub joined : Tag → ℕ → List ℕ → List ℕ → Result (List ℕ) ErrorKind
joined t zero front w = if are_closed w then Ok front else Err kinds.TrailingData
joined t (suc n) front w = if are_closed w then Ok front
    else (part_at t w >>= λ x. joined t n (front ++ x.0) x.1)

-- The joined contents under BER. DER doesn't allow the constructed form (X.690 10.2).
abbrev pub join_by : EncodingRules → Tag → List ℕ → Result (List ℕ) ErrorKind
join_by encodings.Ber t w = joined t (length w) [] w
join_by encodings.Der t w = Err kinds.TagUnknown

-- The joined contents of the parts in the next `n` bytes.
unfoldable pub parts_at : EncodingRules → Tag → ℕ → Readings (List ℕ)
parts_at rules t n w = slice_at n w >>= λ x. join_by rules t x.0 >>= kept x.1
