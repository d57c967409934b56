-- The range of named numbers.
use Rattle.std.specs.Prelude.{ℕ, List, [], ◌∷◌, Bool, true, ◌&&◌, nat_lt}

-- Each number has at most eight bits.
abbrev pub are_octets : List ℕ → Bool
are_octets [] = true
are_octets (n ∷ ns) = nat_lt n 256 && are_octets ns
