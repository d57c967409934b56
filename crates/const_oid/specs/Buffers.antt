-- A list of bytes at the beginning of an array that is zero after the list. The list and its length
-- determine the array.
use Rattle.std.specs.Prelude.{◌≡◌, ℕ, ◌-◌, ◌≤◌, List, ◌++◌, length, take, drop, replicate}
use Rattle.std.proofs.Common.{sym, ap, ◌∙◌, arith, length-take-le, take-append-drop}

-- A list of `count` bytes has this length.
pub length_front : (size count : ℕ) (bytes : List ℕ) → count ≤ size → length bytes ≡ size
    → length (take count bytes) ≡ count
length_front size count bytes fits whole = length-take-le count bytes (omega arith)

-- The list, followed by zeros, is the array.
pub padded : (size count : ℕ) (bytes : List ℕ) → count ≤ size → length bytes ≡ size
    → drop count bytes ≡ replicate (size - count) 0
    → take count bytes ++ replicate (size - length (take count bytes)) 0 ≡ bytes
padded size count bytes fits whole zeros =
    ap (λ n. take count bytes ++ replicate (size - n) 0) (length_front size count bytes fits whole)
    ∙ ap (λ t. take count bytes ++ t) (sym zeros)
    ∙ take-append-drop count bytes
