-- Attributes of CSRs with one value (RFC 2986 4.1).
use Rattle.std.specs.Prelude.{ℕ, List, [], ◌∷◌, Result, Ok, Err}
use Rattle.std.proofs.Common.{inl, inr}
use Rattle.der_core.specs.ErrorTypes.ErrorKind.{ErrorKind}
use Rattle.der_core.specs.ErrorTypes.ErrorKind.TheVariants as kinds
use Rattle.der_core.specs.Octets.{◌>>=◌}
use Rattle.der_core.specs.Shapes.{Shape, Value, AnyValue, tagged, any, either, optional}
use Rattle.der_core.specs.Shapes.{defaulted, nothing}
use Rattle.x509_cert_parts.specs.Types.Contents.{written_as}
use Rattle.x509_cert_names.specs.Names.{PlainAttribute}

-- The tag and the content of a value's encoding, if it has fewer than 2^32 bytes. An optional field
-- has none: it may be absent.
abbrev pub any_of : (s : Shape) → Value s → Result AnyValue ErrorKind
any_of (tagged t c) v = written_as t c v
any_of any v = Ok v
any_of (either a b) (inl v) = any_of a v
any_of (either a b) (inr v) = any_of b v
any_of (optional s) v = Err kinds.Failed
any_of (defaulted s d) v = Err kinds.Failed
any_of nothing v = Err kinds.Failed

-- The attribute with this OID and this value only.
abbrev pub attribute_of : List ℕ → Result AnyValue ErrorKind → Result PlainAttribute ErrorKind
attribute_of arcs r = r >>= λ (v : AnyValue). Ok (arcs, (v ∷ [], tt))

-- challengePassword, 1.2.840.113549.1.9.7 (RFC 2985 5.4.1).
abbrev pub challenge_password_arcs : List ℕ
challenge_password_arcs = 1 ∷ 2 ∷ 840 ∷ 113549 ∷ 1 ∷ 9 ∷ 7 ∷ []
