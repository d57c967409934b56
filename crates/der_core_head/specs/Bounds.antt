-- Valid values under another bound of arcs than the one that the shape has, and the object
-- identifiers of a value. Abstract values and encodings don't depend on the bounds in a shape, so a
-- value can be examined under any bound.
use Rattle.std.specs.Prelude.{◌≡◌, ℕ, ◌<◌, ◌≤◌, List, [], ◌∷◌, ◌++◌, length, Some, None, flat_map}
use Rattle.std.specs.Prelude.{Contains, ⊤}
use Rattle.std.proofs.Common.{inl, inr}
use Rattle.std.specs.List.{AllByRecursion}
use Rattle.const_oid.specs.IdentifierOctets.{identifier_octets, IsIdentifier}
use Rattle.der_core_head.specs.Octets.{IsOctets}
use Rattle.der_core_head.specs.Tags.{IsTag}
use Rattle.der_core_head.specs.Heads.{tlv, Fits}
use Rattle.der_core_head.specs.Leaves.{Leaf, LeafValue, IsLeafValue, identifier}
use Rattle.der_core_head.specs.Shapes.{Shape, Content, Body, tagged, any, either, optional}
use Rattle.der_core_head.specs.Shapes.{defaulted, nothing, leaf, nested, done, field, only, many}
use Rattle.der_core_head.specs.Shapes.{exactly, few, in_order, Value, ContentValue, BodyValue}
use Rattle.der_core_head.specs.Shapes.{octets_of, contents, AllInOrder}

-- A leaf is valid if this bound of arcs is taken in place of its own.
abbrev pub IsLeafUnder : ℕ → (l : Leaf) → LeafValue l → Type 0
IsLeafUnder bound (identifier own capacity) v = IsIdentifier bound v
    × (length (identifier_octets v) ≤ capacity)
IsLeafUnder bound other v = IsLeafValue other v

-- A value is valid if this bound of arcs is taken for each object identifier in place of the
-- shape's own bound.
unfoldable mutual
  pub IsValidUnder : ℕ → (s : Shape) → Value s → Type 0
  IsValidUnder bound (tagged t c) v = IsContentUnder bound c v × IsTag t
      × Fits (tlv t (contents c v))
  IsValidUnder bound any v = IsOctets v.contents × IsTag v.tag × Fits (tlv v.tag v.contents)
  IsValidUnder bound (either a b) (inl v) = IsValidUnder bound a v
  IsValidUnder bound (either a b) (inr v) = IsValidUnder bound b v
  IsValidUnder bound (optional s) None = ⊤
  IsValidUnder bound (optional s) (Some v) = IsValidUnder bound s v
  IsValidUnder bound (defaulted s d) v = IsValidUnder bound s v
  IsValidUnder bound nothing v = ⊤

  pub IsContentUnder : ℕ → (c : Content) → ContentValue c → Type 0
  IsContentUnder bound (leaf l) v = IsLeafUnder bound l v
  IsContentUnder bound (nested b) v = IsBodyUnder bound b v

  pub IsBodyUnder : ℕ → (b : Body) → BodyValue b → Type 0
  IsBodyUnder bound done v = ⊤
  IsBodyUnder bound (field s b) v = IsValidUnder bound s v.0 × IsBodyUnder bound b v.1
  IsBodyUnder bound (only s) v = IsValidUnder bound s v
  IsBodyUnder bound (many s) v = AllByRecursion (λ x. IsValidUnder bound s x) v
  IsBodyUnder bound (exactly n s) v = AllByRecursion (λ x. IsValidUnder bound s x) v
      × (length v ≡ n)
  IsBodyUnder bound (few n s) v = AllByRecursion (λ x. IsValidUnder bound s x) v × (length v ≤ n)
  IsBodyUnder bound (in_order how s) v = AllByRecursion (λ x. IsValidUnder bound s x) v
      × AllInOrder how (λ x. octets_of s x) v

-- The shape has this bound of arcs, and no other.
abbrev pub IsLeafOf : ℕ → Leaf → Type 0
IsLeafOf bound (identifier own capacity) = own ≡ bound
IsLeafOf bound other = ⊤

-- The shape has this bound of arcs for all its identifiers, and no other.
abbrev mutual
  pub IsOf : ℕ → Shape → Type 0
  IsOf bound (tagged t c) = IsContentOf bound c
  IsOf bound any = ⊤
  IsOf bound (either a b) = IsOf bound a × IsOf bound b
  IsOf bound (optional s) = IsOf bound s
  IsOf bound (defaulted s d) = IsOf bound s
  IsOf bound nothing = ⊤

  pub IsContentOf : ℕ → Content → Type 0
  IsContentOf bound (leaf l) = IsLeafOf bound l
  IsContentOf bound (nested b) = IsBodyOf bound b

  pub IsBodyOf : ℕ → Body → Type 0
  IsBodyOf bound done = ⊤
  IsBodyOf bound (field s b) = IsOf bound s × IsBodyOf bound b
  IsBodyOf bound (only s) = IsOf bound s
  IsBodyOf bound (many s) = IsOf bound s
  IsBodyOf bound (exactly n s) = IsOf bound s
  IsBodyOf bound (few n s) = IsOf bound s
  IsBodyOf bound (in_order how s) = IsOf bound s

-- The object identifiers of a value, as lists of arcs, in the order of its encoding. Identifiers
-- inside `any` aren't included.
abbrev pub leaf_identifiers : (l : Leaf) → LeafValue l → List (List ℕ)
leaf_identifiers (identifier bound capacity) v = v ∷ []
leaf_identifiers other v = []

unfoldable mutual
  pub identifiers_of : (s : Shape) → Value s → List (List ℕ)
  identifiers_of (tagged t c) v = content_identifiers c v
  identifiers_of any v = []
  identifiers_of (either a b) (inl v) = identifiers_of a v
  identifiers_of (either a b) (inr v) = identifiers_of b v
  identifiers_of (optional s) None = []
  identifiers_of (optional s) (Some v) = identifiers_of s v
  identifiers_of (defaulted s d) v = identifiers_of s v
  identifiers_of nothing v = []

  pub content_identifiers : (c : Content) → ContentValue c → List (List ℕ)
  content_identifiers (leaf l) v = leaf_identifiers l v
  content_identifiers (nested b) v = body_identifiers b v

  pub body_identifiers : (b : Body) → BodyValue b → List (List ℕ)
  body_identifiers done v = []
  body_identifiers (field s b) v = identifiers_of s v.0 ++ body_identifiers b v.1
  body_identifiers (only s) v = identifiers_of s v
  body_identifiers (many s) v = flat_map (λ x. identifiers_of s x) v
  body_identifiers (exactly n s) v = flat_map (λ x. identifiers_of s x) v
  body_identifiers (few n s) v = flat_map (λ x. identifiers_of s x) v
  body_identifiers (in_order how s) v = flat_map (λ x. identifiers_of s x) v

-- Each arc of these identifiers is below the bound.
abbrev pub AreBelow : ℕ → List (List ℕ) → Type 0
AreBelow bound identifiers =
    AllByRecursion (λ arcs. AllByRecursion (λ n. n < bound) arcs) identifiers

-- One of these identifiers has an arc that isn't below the bound.
abbrev pub HoldsLarge : ℕ → List (List ℕ) → Type 0
HoldsLarge bound identifiers = (arcs : List ℕ) × (n : ℕ) × Contains identifiers arcs
    × Contains arcs n × (bound ≤ n)
