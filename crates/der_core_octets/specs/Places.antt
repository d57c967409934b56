-- Positions in the input, and undecoded encodings.
use Rattle.std.specs.Prelude.{◌≡◌, ◌+◌, ◌-◌, ℕ, List, length, take, Ok}
use Rattle.der_core_head.specs.Octets.{◌>>=◌, Readings}
use Rattle.der_core_head.specs.Heads.{Head}
use Rattle.der_core_head.specs.Grammar.{slice_at}
use Rattle.der_core_head.specs.Reading.{State}

-- The reader is `n` bytes after the beginning of the input.
abbrev pub IsAt : ℕ → State → Type 0
IsAt n s = n + length s.rest + length s.behind ≡ s.source.size

-- The bytes of an encoding: the header that this decoder gives, and its content, undecoded.
unfoldable pub encoding_at : Readings Head → Readings (List ℕ)
encoding_at head w = head w >>= λ h. slice_at h.0.len h.1
    >>= λ x. Ok (take (length w - length x.1) w, x.1)
