-- Lengths without a tag before them (X.690 8.1.3, 10.1).
use Rattle.std.specs.Prelude.{ℕ, List, Result, Ok, Err}
use Rattle.der_core_head.specs.declared.error.ErrorKind.{ErrorKind}
use Rattle.der_core_head.specs.declared.error.ErrorKind.TheVariants as kinds
use Rattle.der_core_head.specs.declared.tag.Tag.TheVariants as tags
use Rattle.der_core_head.specs.Octets.{Readings}
use Rattle.der_core_head.specs.Heads.{length_at}

-- The error of a length without a tag: `Overlength` takes the place of `Length`, which would name
-- the tag.
abbrev pub lone_fault : ErrorKind → ErrorKind
lone_fault (kinds.Length t) = kinds.Overlength
lone_fault k = k

abbrev pub lone : Result (ℕ × List ℕ) ErrorKind → Result (ℕ × List ℕ) ErrorKind
lone (Ok x) = Ok x
lone (Err k) = Err (lone_fault k)

-- Decodes a length as after any tag, except for that error.
unfoldable pub lone_length_at : Readings ℕ
lone_length_at w = lone (length_at tags.Null w)
