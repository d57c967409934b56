-- Shapes describe ASN.1 types (X.680 24 to 31). For each shape, this file defines its abstract
-- values, which of them are valid, and their encodings (X.690). A `Shape` describes a whole value,
-- a `Content` what follows a header, and a `Body` the values inside a constructed value.
use Rattle.std.specs.Prelude.{◌≡◌, ◌≢◌, ◌≤◌, ℕ, List, [], ◌∷◌, ◌++◌, length, Bool, true, false, ◌⊎◌}
use Rattle.std.specs.Prelude.{Option, Some, None, bytes_eq, flat_map, ◌||◌, ⊤}
use Rattle.std.proofs.Common.{inl, inr}
use Rattle.std.specs.List.{AllByRecursion}
use Rattle.std.specs.Ordering.{nat_cmp}
use Rattle.std.specs.declared.cmp.Ordering.TheVariants.{Less, Greater}
use Rattle.std.specs.Cmp.Lexicographic.{slice_cmp}
use Rattle.der_core_head.specs.declared.tag.Tag.{Tag}
use Rattle.der_core_head.specs.declared.tag.Tag.TheVariants as tags
use Rattle.der_core_head.specs.Octets.{IsOctets}
use Rattle.der_core_head.specs.Tags.{IsTag, same_tag, context}
use Rattle.der_core_head.specs.Heads.{tlv, Fits}
use Rattle.der_core_head.specs.Leaves.{Leaf, LeafValue, leaf_contents, IsLeafValue}

-- How the encoding of a member of a SET OF must compare with that of the member before it (X.690
-- 11.6).
pub data Step : Type 0 where
  above : Step  -- greater, so no two members are equal
  not_below : Step  -- not less, so equal members are allowed

mutual
  -- A whole value.
  pub data Shape : Type 0 where
    tagged : Tag → Content → Shape  -- a header with this tag, and its content
    any : Shape  -- a value of any tag, whose content isn't decoded
    either : Shape → Shape → Shape  -- CHOICE of two alternatives
    optional : Shape → Shape  -- OPTIONAL: absent or present
    defaulted : Shape → List ℕ → Shape  -- DEFAULT: the bytes encode the default, which is omitted
    nothing : Shape  -- a field that is encoded as no bytes

  -- What follows a header.
  pub data Content : Type 0 where
    leaf : Leaf → Content  -- primitive
    nested : Body → Content  -- constructed

  -- The values inside a constructed value.
  pub data Body : Type 0 where
    done : Body  -- no further fields
    field : Shape → Body → Body  -- a field, and the fields after it
    only : Shape → Body  -- exactly one value
    many : Shape → Body  -- any number of values of one shape
    exactly : ℕ → Shape → Body  -- this number of values
    few : ℕ → Shape → Body  -- at most this number of values
    in_order : Step → Shape → Body  -- SET OF, whose encodings are in this order

-- A value of any type: its tag, and its content, which isn't decoded.
pub record AnyValue : Type 0 where
  pub tag : Tag
  pub contents : List ℕ

-- The abstract values of a shape, of a content and of a body.
abbrev mutual
  pub Value : Shape → Type 0
  Value (tagged t c) = ContentValue c
  Value any = AnyValue
  Value (either a b) = Value a ⊎ Value b
  Value (optional s) = Option (Value s)
  Value (defaulted s d) = Value s
  Value nothing = Unit {0}

  pub ContentValue : Content → Type 0
  ContentValue (leaf l) = LeafValue l
  ContentValue (nested b) = BodyValue b

  pub BodyValue : Body → Type 0
  BodyValue done = Unit {0}
  BodyValue (field s b) = Value s × BodyValue b
  BodyValue (only s) = Value s
  BodyValue (many s) = List (Value s)
  BodyValue (exactly n s) = List (Value s)
  BodyValue (few n s) = List (Value s)
  BodyValue (in_order how s) = List (Value s)

-- The members of a SET OF whose encodings strictly ascend (X.690 11.6).
abbrev pub rising : Shape → Body
rising s = in_order above s

-- The members of a SET OF whose encodings ascend. Equal members are allowed.
abbrev pub ascending : Shape → Body
ascending s = in_order not_below s

-- SEQUENCE with these fields (X.690 8.9).
abbrev pub sequence : Body → Shape
sequence b = tagged tags.Sequence (nested b)

-- SEQUENCE OF values of this shape (X.690 8.10).
abbrev pub sequence_of : Shape → Shape
sequence_of s = tagged tags.Sequence (nested (many s))

-- SET OF values of this shape whose encodings strictly ascend (X.690 8.12, 11.6).
abbrev pub strict_set_of : Shape → Shape
strict_set_of s = tagged tags.Set (nested (rising s))

-- An explicit context-specific tag `[n]` (X.680 31.2). An implicit tag is written as another tag
-- with the same content.
abbrev pub explicit : ℕ → Shape → Shape
explicit n s = tagged (context true n) (nested (only s))

-- The bytes, or no bytes if the condition is true.
unfoldable pub unless : Bool → List ℕ → List ℕ
unless true w = []
unless false w = w

-- The encoding of a value. For a value that isn't valid, these are the bytes that its parts would
-- be encoded as, and no law says that they decode to it.
unfoldable mutual
  pub octets_of : (s : Shape) → Value s → List ℕ
  octets_of (tagged t c) v = tlv t (contents c v)
  octets_of any v = tlv v.tag v.contents
  octets_of (either a b) (inl v) = octets_of a v
  octets_of (either a b) (inr v) = octets_of b v
  octets_of (optional s) None = []
  octets_of (optional s) (Some v) = octets_of s v
  octets_of (defaulted s d) v = unless (bytes_eq (octets_of s v) d) (octets_of s v)
  octets_of nothing v = []

  pub contents : (c : Content) → ContentValue c → List ℕ
  contents (leaf l) v = leaf_contents l v
  contents (nested b) v = body_octets b v

  pub body_octets : (b : Body) → BodyValue b → List ℕ
  body_octets done v = []
  body_octets (field s b) v = octets_of s v.0 ++ body_octets b v.1
  body_octets (only s) v = octets_of s v
  body_octets (many s) v = flat_map (λ x. octets_of s x) v
  body_octets (exactly n s) v = flat_map (λ x. octets_of s x) v
  body_octets (few n s) v = flat_map (λ x. octets_of s x) v
  body_octets (in_order how s) v = flat_map (λ x. octets_of s x) v

-- The encoding `b` may come after the encoding `a` in a SET OF of this order.
abbrev pub Follows : Step → List ℕ → List ℕ → Type 0
Follows above a b = slice_cmp nat_cmp a b ≡ Less
Follows not_below a b = slice_cmp nat_cmp a b ≢ Greater

-- Each encoding may come after the one before it (X.690 11.6).
abbrev pub AllInOrder : {A : Type 0} → Step → (A → List ℕ) → List A → Type 0
AllInOrder how f [] = ⊤
AllInOrder how f (x ∷ []) = ⊤
AllInOrder how f (x ∷ y ∷ xs) = Follows how (f x) (f y) × AllInOrder how f (y ∷ xs)

-- The encodings strictly ascend: each is less than the next one.
abbrev pub AllRising : {A : Type 0} → (A → List ℕ) → List A → Type 0
AllRising f xs = AllInOrder above f xs

-- The encodings ascend: none is greater than the next one.
abbrev pub AllAscending : {A : Type 0} → (A → List ℕ) → List A → Type 0
AllAscending f xs = AllInOrder not_below f xs

-- The values that have an encoding: primitive contents are valid, the members of sets are in order,
-- and no encoding has more than `length_max` bytes.
unfoldable mutual
  pub IsValid : (s : Shape) → Value s → Type 0
  IsValid (tagged t c) v = IsContent c v × IsTag t × Fits (tlv t (contents c v))
  IsValid any v = IsOctets v.contents × IsTag v.tag × Fits (tlv v.tag v.contents)
  IsValid (either a b) (inl v) = IsValid a v
  IsValid (either a b) (inr v) = IsValid b v
  IsValid (optional s) None = ⊤
  IsValid (optional s) (Some v) = IsValid s v
  IsValid (defaulted s d) v = IsValid s v
  IsValid nothing v = ⊤

  pub IsContent : (c : Content) → ContentValue c → Type 0
  IsContent (leaf l) v = IsLeafValue l v
  IsContent (nested b) v = IsBody b v

  pub IsBody : (b : Body) → BodyValue b → Type 0
  IsBody done v = ⊤
  IsBody (field s b) v = IsValid s v.0 × IsBody b v.1
  IsBody (only s) v = IsValid s v
  IsBody (many s) v = AllByRecursion (λ x. IsValid s x) v
  IsBody (exactly n s) v = AllByRecursion (λ x. IsValid s x) v × (length v ≡ n)
  IsBody (few n s) v = AllByRecursion (λ x. IsValid s x) v × (length v ≤ n)
  IsBody (in_order how s) v = AllByRecursion (λ x. IsValid s x) v
      × AllInOrder how (λ x. octets_of s x) v

-- The value is valid, and the bytes are its encoding.
pub record Spells (s : Shape) (v : Value s) (b : List ℕ) : Type 0 where
  pub valid : IsValid s v
  pub octets : b ≡ octets_of s v

-- The tags with which an encoding of the shape may begin.
abbrev pub begins : Shape → Tag → Bool
begins (tagged tag c) t = same_tag tag t
begins any t = true
begins (either a b) t = begins a t || begins b t
begins (optional s) t = begins s t
begins (defaulted s d) t = begins s t
begins nothing t = false
