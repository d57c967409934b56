-- Bytes, and chains of steps that may fail.
use Rattle.std.specs.Prelude.{ℕ, ◌<◌, List, [], ◌∷◌, Bool, true, Result, Ok, Err, nat_lt, ◌&&◌}
use Rattle.std.specs.List.{AllByRecursion}
use Rattle.der_core_head.specs.declared.error.ErrorKind.{ErrorKind}

-- Each number is a byte.
abbrev pub IsOctets : List ℕ → Type 0
IsOctets w = AllByRecursion (λ b. b < 256) w

-- Tests that each number is a byte.
abbrev pub are_octets : List ℕ → Bool
are_octets [] = true
are_octets (b ∷ w) = nat_lt b 256 && are_octets w

infixl 10 ◌>>=◌
abbrev pub ◌>>=◌ : {A B : Type 0} → Result A ErrorKind → (A → Result B ErrorKind)
    → Result B ErrorKind
(Ok x) >>= f = f x
(Err e) >>= f = Err e

-- A decoder of a prefix of bytes: it gives a value and the remaining bytes, or the first error.
abbrev pub Readings : Type 0 → Type 0
Readings P = List ℕ → Result (P × List ℕ) ErrorKind
