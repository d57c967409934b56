-- Decoding headers at the beginning of bytes.
use Rattle.std.specs.Prelude.{◌≡◌, ◌≢◌, ◌≤◌, ℕ, List, length, drop, Option, Some, None, Result, Ok}
use Rattle.std.specs.Prelude.{Err, if◌then◌else◌}
use Rattle.der_core_head.specs.declared.error.Error.{Error}
use Rattle.der_core_head.specs.declared.error.ErrorKind.TheVariants as kinds
use Rattle.der_core_head.specs.declared.tag.Tag.{Tag}
use Rattle.der_core_head.specs.Tags.{same_tag}
use Rattle.der_core_head.specs.Octets.{Readings, ◌>>=◌}
use Rattle.der_core_head.specs.Heads.{Head, head_at}
use Rattle.der_core_octets.specs.declared.header.Header.{Header}

-- The abstract value of a header.
abbrev pub head_of : Header → Head
head_of h = record { tag = h.tag; len = h.length.value }

-- Decodes a header, which must have this tag.
unfoldable pub wanted_at : Tag → Readings Head → Readings Head
wanted_at tag head w = head w >>= λ h. if same_tag h.0.tag tag then Ok h
    else Err kinds.TagUnexpected

-- The function returned the header with which the bytes begin, and its length; or `None`, and the
-- bytes end inside the header; or another error.
abbrev pub Scans : List ℕ → Result (Option (Header × ℕ)) Error → Type 0
Scans w (Ok (Some x)) = (head_at w ≡ Ok (head_of x.0, drop x.1 w)) × (x.1 ≤ length w)
Scans w (Ok None) = head_at w ≡ Err kinds.Incomplete
Scans w (Err e) = (head_at w ≡ Err e.kind) × (e.kind ≢ kinds.Incomplete)

-- Two results are equal, except for the position of an error.
abbrev pub AreAlike : {A : Type 0} → Result A Error → Result A Error → Type 0
AreAlike (Ok x) (Ok y) = x ≡ y
AreAlike (Err d) (Err e) = d.kind ≡ e.kind
AreAlike r s = ⊥
