-- A test of lines gives the same result for the code's values and their abstract values.
use Rattle.std.proofs.Common.{◌≡◌, ◌||◌, ℕ, Bool, Bor, List, [], ◌∷◌, map, refl, ap}
use Rattle.std.specs.List.{list_any}

pub any_line : (test : List ℕ → Bool) (lines : List (Bor (List ℕ))) → list_any test (map (λ line. line.now) lines) ≡ list_any (λ line. test line.now) lines
any_line test [] = refl
any_line test (line ∷ lines) = ap (λ (b : Bool). test line.now || b) (any_line test lines)
