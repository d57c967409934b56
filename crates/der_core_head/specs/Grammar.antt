-- The decoder of shapes. It decodes from left to right, returns the first error, and counts the
-- levels of nesting that may still be opened. The encoding rules decide only which headers are
-- accepted: contents are decoded as under DER, and so is everything inside a SET OF in DER order
-- (X.690 11.6).
use Rattle.std.specs.Prelude.{ℕ, zero, suc, List, [], ◌∷◌, length, take, drop, Bool, Option}
use Rattle.std.specs.Prelude.{Some, None, Result, Ok, Err, nat_lt, bytes_eq, ◌⊎◌, if◌then◌else◌}
use Rattle.std.proofs.Common.{inl, inr}
use Rattle.std.specs.Ordering.{nat_cmp}
use Rattle.std.specs.declared.cmp.Ordering.{Ordering}
use Rattle.std.specs.declared.cmp.Ordering.TheVariants.{Less, Equal, Greater}
use Rattle.std.specs.Cmp.Lexicographic.{slice_cmp}
use Rattle.der_core_head.specs.declared.error.ErrorKind.{ErrorKind}
use Rattle.der_core_head.specs.declared.error.ErrorKind.TheVariants as kinds
use Rattle.der_core_head.specs.declared.encoding_rules.EncodingRules.{EncodingRules}
use Rattle.der_core_head.specs.declared.encoding_rules.EncodingRules.TheVariants as encodings
use Rattle.der_core_head.specs.declared.tag.Tag.{Tag}
use Rattle.der_core_head.specs.Octets.{◌>>=◌, Readings}
use Rattle.der_core_head.specs.Limits.{length_max, levels_max}
use Rattle.der_core_head.specs.Tags.{same_tag}
use Rattle.der_core_head.specs.Bodies.{head_by, tag_by}
use Rattle.der_core_head.specs.Leaves.{leaf_read}
use Rattle.der_core_head.specs.Shapes.{Step, above, not_below, Shape, Content, Body, tagged, any}
use Rattle.der_core_head.specs.Shapes.{either, optional, defaulted, nothing, leaf, nested, done}
use Rattle.der_core_head.specs.Shapes.{field, only, many, exactly, few, in_order, Value}
use Rattle.der_core_head.specs.Shapes.{ContentValue, BodyValue, AnyValue, octets_of, begins}

-- Takes the next `n` bytes.
unfoldable pub slice_at : ℕ → Readings (List ℕ)
slice_at n w = if nat_lt (length w) n then Err kinds.Incomplete else Ok (take n w, drop n w)

-- Takes the next byte.
abbrev pub byte_at : Readings ℕ
byte_at [] = Err kinds.Incomplete
byte_at (b ∷ w) = Ok (b, w)

-- Accepts a result only if no bytes are left after it.
abbrev pub whole : {P : Type 0} → P × List ℕ → Result (P × List ℕ) ErrorKind
whole (p, []) = Ok (p, [])
whole (p, b ∷ bs) = Err kinds.TrailingData

-- Applies a decoder to the next `n` bytes, all of which it must use.
unfoldable pub value_at : {P : Type 0} → Readings P → ℕ → Readings P
value_at f n w =
    if nat_lt (length w) n then Err kinds.Incomplete
    else (f (take n w) >>= whole >>= λ x. Ok (x.0, drop n w))

-- Decodes a header, which must have this tag, and the content after it.
unfoldable pub tlv_at : {P : Type 0} → EncodingRules → Tag → Readings P → Readings P
tlv_at rules tag f w = head_by rules w >>= λ h. if same_tag h.0.tag tag then value_at f h.0.len h.1
    else Err kinds.TagUnexpected

-- Decodes a header, and keeps its content undecoded.
unfoldable pub any_at : EncodingRules → Readings AnyValue
any_at rules w = head_by rules w >>= λ h. slice_at h.0.len h.1
    >>= λ x. Ok (record { tag = h.0.tag; contents = x.0 }, x.1)

-- Decodes values up to the end of the bytes. If bytes are left after `n` values, the error is `e`.
unfoldable pub read_many : {P : Type 0} → ErrorKind → Readings P → ℕ → Readings (List P)
read_many e f n [] = Ok ([], [])
read_many e f zero (b ∷ bs) = Err e
read_many e f (suc n) (b ∷ bs) = f (b ∷ bs) >>= λ x. read_many e f n x.1
    >>= λ y. Ok (x.0 ∷ y.0, y.1)

-- Decodes exactly `n` values.
unfoldable pub read_exactly : {P : Type 0} → Readings P → ℕ → Readings (List P)
read_exactly f zero w = Ok ([], w)
read_exactly f (suc n) w = f w >>= λ x. read_exactly f n x.1 >>= λ y. Ok (x.0 ∷ y.0, y.1)

-- Checks how an encoding compares with the one after it in a SET OF.
abbrev pub ordered : Step → Ordering → Result (Unit {0}) ErrorKind
ordered above Less = Ok tt
ordered above Equal = Err kinds.SetDuplicate
ordered above Greater = Err kinds.SetOrdering
ordered not_below Less = Ok tt
ordered not_below Equal = Ok tt
ordered not_below Greater = Err kinds.SetOrdering

-- Checks that the encoding `b` may come after the encoding `a` in a SET OF.
abbrev pub follows : Step → List ℕ → List ℕ → Result (Unit {0}) ErrorKind
follows how a b = ordered how (slice_cmp nat_cmp a b)

-- Checks that the encoding `b` may come after the last one, if there is one.
abbrev pub follows_last : Step → Option (List ℕ) → List ℕ → Result (Unit {0}) ErrorKind
follows_last how None b = Ok tt
follows_last how (Some a) b = follows how a b

-- Decodes at most `n` values up to the end of the bytes. Their encodings, which `o` gives, must be
-- in order, also after the last encoding before these bytes, if there is one.
unfoldable pub read_in_order : {P : Type 0} → Step → (P → List ℕ) → Readings P → Option (List ℕ) → ℕ
    → Readings (List P)
read_in_order how o f last n [] = Ok ([], [])
read_in_order how o f last zero (b ∷ bs) = Err kinds.TrailingData
read_in_order how o f last (suc n) (b ∷ bs) = f (b ∷ bs) >>= λ x. follows_last how last (o x.0)
    >>= λ _. read_in_order how o f (Some (o x.0)) n x.1 >>= λ y. Ok (x.0 ∷ y.0, y.1)

-- Returns the next tag without consuming it, or `None` at the end of the bytes.
abbrev pub peek_at : EncodingRules → List ℕ → Result (Option Tag) ErrorKind
peek_at rules [] = Ok None
peek_at rules (b ∷ w) = tag_by rules (b ∷ w) >>= λ t. Ok (Some t.0)

-- Keeps a tag only if it is one of these.
abbrev pub chosen : (Tag → Bool) → Option Tag → Option Tag
chosen first None = None
chosen first (Some t) = if first t then Some t else None

-- Decodes an optional value: if a first tag of the value was found, the value, and otherwise
-- `None`.
abbrev pub opt_after : {P : Type 0} → Readings P → List ℕ → Option Tag
    → Result (Option P × List ℕ) ErrorKind
opt_after f w None = Ok (None, w)
opt_after f w (Some t) = f w >>= λ x. Ok (Some x.0, x.1)

-- Decodes an optional value, which is present if the next tag is one of its first tags.
unfoldable pub opt_at : {P : Type 0} → EncodingRules → (Tag → Bool) → Readings P
    → Readings (Option P)
opt_at rules first f w = peek_at rules w >>= λ t. opt_after f w (chosen first t)

-- Decodes a value with a default: if a first tag of the value was found, the value, and otherwise
-- the default. An encoded default is rejected (X.690 11.5).
abbrev pub default_after : {P : Type 0} → Result (P × List ℕ) ErrorKind → (P → Bool) → Readings P
    → List ℕ → Option Tag → Result (P × List ℕ) ErrorKind
default_after d is f w None = d >>= whole >>= λ x. Ok (x.0, w)
default_after d is f w (Some t) = f w >>= λ x. if is x.0 then Err (kinds.Noncanonical t) else Ok x

-- Decodes a value with the default `d`, which the test `is` recognizes. The value is present if the
-- next tag is one of its first tags.
unfoldable pub default_at : {P : Type 0} → EncodingRules → (Tag → Bool)
    → Result (P × List ℕ) ErrorKind → (P → Bool) → Readings P → Readings P
default_at rules first d is f w = peek_at rules w >>= λ t. default_after d is f w (chosen first t)

-- Decodes one of two alternatives, which the next tag selects.
unfoldable pub either_at : {P Q : Type 0} → EncodingRules → (Tag → Bool) → (Tag → Bool) → Readings P
    → Readings Q → Readings (P ⊎ Q)
either_at rules a b f g w = tag_by rules w >>= λ t.
    if a t.0 then (f w >>= λ x. Ok (inl x.0, x.1)) else if b t.0
    then (g w >>= λ x. Ok (inr x.0, x.1)) else Err kinds.TagUnexpected

-- The result of decoding a primitive content, which uses all of its bytes.
abbrev pub leaf_at : {P : Type 0} → Result P ErrorKind → Result (P × List ℕ) ErrorKind
leaf_at (Ok v) = Ok (v, [])
leaf_at (Err e) = Err e

-- A value and the remaining bytes.
abbrev pub kept : {P : Type 0} → List ℕ → P → Result (P × List ℕ) ErrorKind
kept r v = Ok (v, r)

-- Decodes a value of a shape under these encoding rules. `room` is the number of levels of nesting
-- that may still be opened. The tag of a content is only used for its errors.
abbrev mutual
  pub read_by : EncodingRules → (s : Shape) → ℕ → List ℕ → Result (Value s × List ℕ) ErrorKind
  read_by rules (tagged t c) room w = tlv_at rules t (read_content_by rules c t room) w
  read_by rules any room w = any_at rules w
  read_by rules (either a b) room w =
      either_at rules (begins a) (begins b) (read_by rules a room) (read_by rules b room) w
  read_by rules (optional s) room w = opt_at rules (begins s) (read_by rules s room) w
  read_by rules (defaulted s d) room w =
      default_at rules (begins s) (read_by encodings.Der s levels_max d)
      (λ v. bytes_eq (octets_of s v) d) (read_by rules s room) w
  read_by rules nothing room w = Ok (tt, w)

  pub read_content_by : EncodingRules → (c : Content) → Tag → ℕ → List ℕ
      → Result (ContentValue c × List ℕ) ErrorKind
  read_content_by rules (leaf l) t room w = leaf_at (leaf_read l t w)
  read_content_by rules (nested b) t zero w = Err kinds.NestingDepth
  read_content_by rules (nested b) t (suc room) w = read_body_by rules b room w >>= whole

  pub read_body_by : EncodingRules → (b : Body) → ℕ → List ℕ
      → Result (BodyValue b × List ℕ) ErrorKind
  read_body_by rules done room w = Ok (tt, w)
  read_body_by rules (field s b) room w =
      read_by rules s room w >>= λ x. read_body_by rules b room x.1 >>= λ y. Ok ((x.0, y.0), y.1)
  read_body_by rules (only s) room w = read_by rules s room w
  read_body_by rules (many s) room w =
      read_many kinds.TrailingData (read_by rules s room) (length w) w
  read_body_by rules (exactly n s) room w = read_exactly (read_by rules s room) n w
  read_body_by rules (few n s) room w = read_many kinds.Overlength (read_by rules s room) n w
  read_body_by rules (in_order how s) room w =
      read_in_order how (λ v. octets_of s v) (read_by encodings.Der s room) None (length w) w

-- The decoders of a shape, of a content and of a body under DER.
abbrev pub read : (s : Shape) → ℕ → List ℕ → Result (Value s × List ℕ) ErrorKind
read s room = read_by encodings.Der s room

abbrev pub read_content : (c : Content) → Tag → ℕ → List ℕ
    → Result (ContentValue c × List ℕ) ErrorKind
read_content c t room = read_content_by encodings.Der c t room

abbrev pub read_body : (b : Body) → ℕ → List ℕ → Result (BodyValue b × List ℕ) ErrorKind
read_body b room = read_body_by encodings.Der b room

-- The abstract value of an option.
abbrev pub plain_option : {A B : Type 0} → (A → B) → Option A → Option B
plain_option f None = None
plain_option f (Some x) = Some (f x)

-- The abstract value of a list.
abbrev pub plain_list : {A B : Type 0} → (A → B) → List A → List B
plain_list f [] = []
plain_list f (x ∷ xs) = f x ∷ plain_list f xs

-- Decodes all bytes under DER. There may be at most `length_max` bytes.
unfoldable pub read_whole : (s : Shape) → List ℕ → Result (Value s × List ℕ) ErrorKind
read_whole s w = if nat_lt length_max (length w) then Err kinds.Overflow
    else (read s levels_max w >>= whole)
