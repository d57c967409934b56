-- Differences of lengths, and the size limit of bytes and texts.
use Rattle.std.specs.Prelude.{◌≡◌, ℕ, ◌-◌, List, length, Result, Ok, Err, nat_lt, if◌then◌else◌}
use Rattle.der_core_head.specs.declared.error.ErrorKind.{ErrorKind}
use Rattle.der_core_head.specs.declared.error.ErrorKind.TheVariants as kinds
use Rattle.der_core_head.specs.declared.error.Error.{Error}
use Rattle.der_core_head.specs.declared.length.Length.{Length}
use Rattle.der_core_head.specs.Octets.{◌>>=◌}
use Rattle.der_core_head.specs.Limits.{length_max}
use Rattle.der_core_head.specs.Reading.{GivesNow}
use Rattle.der_core_head.specs.Texts.{utf8_read}
use Rattle.der_core_head.specs.Writing.{sum_len}

-- The difference of two lengths, or `Overflow` if it is negative.
abbrev pub difference_len : ℕ → ℕ → Result ℕ ErrorKind
difference_len m n = if nat_lt m n then Err kinds.Overflow else Ok (m - n)

-- The bytes, or `Overflow` if there are more than `length_max`.
abbrev pub counted : List ℕ → Result (List ℕ) ErrorKind
counted w = if nat_lt length_max (length w) then Err kinds.Overflow else Ok w

-- The bytes of a UTF-8 text, or `Overflow` if there are more than `length_max`.
abbrev pub counted_text : List ℕ → Result (List ℕ) ErrorKind
counted_text w = utf8_read w >>= counted

-- A length is added to the length that a call returned, or subtracted from it. An error is passed
-- on.
abbrev pub AddsTo : Result Length Error → Length → Result Length Error → Type 0
AddsTo (Ok a) b r = GivesNow (λ l. l.value) r (sum_len a.value b.value)
AddsTo (Err e) b r = r ≡ Err e

abbrev pub TakesFrom : Result Length Error → Length → Result Length Error → Type 0
TakesFrom (Ok a) b r = GivesNow (λ l. l.value) r (difference_len a.value b.value)
TakesFrom (Err e) b r = r ≡ Err e
