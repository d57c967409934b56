-- The abstract values of `Any` and `AnyRef`: the tag and the content.
use Rattle.std.specs.Prelude.{ℕ, List}
use Rattle.der_types_text.specs.Der.Heads.{Fits}
use Rattle.der_types_text.specs.Der.Shapes.{AnyValue}
use Rattle.der_types_any.specs.AnyOrders.{any_key}
use Rattle.der_types_any.specs.declared.any.Any.TheInside.{Inside}
use Rattle.der_types_any.specs.declared.any_ref.AnyRef.{AnyRef}

-- The abstract value of an `Any`.
abbrev pub any_kept : Inside → AnyValue
any_kept a = record { tag = a.tag; contents = a.bytes }

-- The content has at most 2^32 - 1 bytes.
abbrev pub IsAny : Inside → Type 0
IsAny a = Fits a.bytes

-- The abstract value of an `AnyRef`.
abbrev pub any_lent : AnyRef → AnyValue
any_lent a = record { tag = a.tag; contents = a.bytes.now }

abbrev pub key_lent : AnyRef → List ℕ
key_lent a = any_key (any_lent a)
