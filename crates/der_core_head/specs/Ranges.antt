-- Values that are valid except for lengths and the order of sets.
use Rattle.std.specs.Prelude.{◌≡◌, ◌≤◌, length, true, Some, None, bytes_eq, ⊤}
use Rattle.std.proofs.Common.{inl, inr}
use Rattle.std.specs.List.{AllByRecursion}
use Rattle.der_core_head.specs.Octets.{IsOctets}
use Rattle.der_core_head.specs.Tags.{IsTag}
use Rattle.der_core_head.specs.Leaves.{IsLeafValue}
use Rattle.der_core_head.specs.Shapes.{Shape, Content, Body, tagged, any, either, optional}
use Rattle.der_core_head.specs.Shapes.{defaulted, nothing, leaf, nested, done, field, only, many}
use Rattle.der_core_head.specs.Shapes.{exactly, few, in_order, Value, ContentValue, BodyValue}
use Rattle.der_core_head.specs.Shapes.{octets_of, IsValid}

-- Leaves are valid, tag numbers fit, and there are as many values as the shape requires. A default
-- that isn't encoded is valid.
abbrev mutual
  pub IsInRange : (s : Shape) → Value s → Type 0
  IsInRange (tagged t c) v = IsContentInRange c v × IsTag t
  IsInRange any v = IsOctets v.contents × IsTag v.tag
  IsInRange (either a b) (inl v) = IsInRange a v
  IsInRange (either a b) (inr v) = IsInRange b v
  IsInRange (optional s) None = ⊤
  IsInRange (optional s) (Some v) = IsInRange s v
  IsInRange (defaulted s d) v = IsInRange s v × (bytes_eq (octets_of s v) d ≡ true → IsValid s v)
  IsInRange nothing v = ⊤

  pub IsContentInRange : (c : Content) → ContentValue c → Type 0
  IsContentInRange (leaf l) v = IsLeafValue l v
  IsContentInRange (nested b) v = IsBodyInRange b v

  pub IsBodyInRange : (b : Body) → BodyValue b → Type 0
  IsBodyInRange done v = ⊤
  IsBodyInRange (field s b) v = IsInRange s v.0 × IsBodyInRange b v.1
  IsBodyInRange (only s) v = IsInRange s v
  IsBodyInRange (many s) v = AllByRecursion (λ x. IsInRange s x) v
  IsBodyInRange (exactly n s) v = AllByRecursion (λ x. IsInRange s x) v × (length v ≡ n)
  IsBodyInRange (few n s) v = AllByRecursion (λ x. IsInRange s x) v × (length v ≤ n)
  IsBodyInRange (in_order how s) v = AllByRecursion (λ x. IsInRange s x) v
