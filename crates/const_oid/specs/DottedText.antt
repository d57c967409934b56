-- The dotted text of an object identifier: its arcs in decimal, separated by dots.
use Rattle.std.specs.Prelude.{ℕ, ◌+◌, List, [], ◌∷◌, ◌++◌, map}
use Rattle.std.specs.List.{flat_map}
use Rattle.const_oid.specs.Digits.{digits}

-- The decimal digits of a number in ASCII.
unfoldable pub decimal : ℕ → List ℕ
decimal n = map (λ d. 48 + d) (digits 10 n)

-- A dot, followed by a number in decimal.
unfoldable pub dot_decimal : ℕ → List ℕ
dot_decimal n = 46 ∷ decimal n

-- The arcs in decimal, separated by dots.
unfoldable pub dotted : List ℕ → List ℕ
dotted [] = []
dotted (a ∷ arcs) = decimal a ++ flat_map dot_decimal arcs
