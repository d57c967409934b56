-- Numbers in the arguments of a program.
use Rattle.std.specs.Prelude.{◌≡◌, ℕ, List}
use Rattle.std.specs.Str.Parse.{IsNumeral, digits_value}

-- The text consists of one or more decimal digits in ASCII, and this is their number.
unfoldable pub IsNumber : ℕ → List ℕ → Type 0
IsNumber n text = IsNumeral 10 text × (digits_value 10 text ≡ n)
