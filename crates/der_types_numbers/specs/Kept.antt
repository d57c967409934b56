-- Bytes that are stored in an array or in a vector.
use Rattle.std.specs.Prelude.{ℕ, ◌≤◌, List, take}
use Rattle.der_types_numbers.specs.declared.kept_octets.Store.{Store}
use Rattle.der_types_numbers.specs.declared.kept_octets.Store.TheVariants.{Few, Many}

-- The first `len` bytes of the array, or the bytes of the vector.
abbrev pub kept : Store → List ℕ
kept (Few few) = take few.len few.bytes
kept (Many v) = v.items

-- There are no more bytes than the array has.
abbrev pub IsKept : Store → Type 0
IsKept (Few few) = few.len ≤ 32
IsKept (Many v) = Unit {0}
