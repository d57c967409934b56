-- Lemmas about the position of the first field in the encoding of a SEQUENCE.
use Rattle.std.proofs.Common.{◌≡◌, ℕ, List, ◌++◌, length, take, drop, refl, ap, ◌∙◌, drop_at, take_at}
use Rattle.der_core.specs.TagTypes.Tag.TheVariants as tags
use Rattle.der_core.specs.Heads.{tlv, head_octets}
use Rattle.der_core.specs.Shapes.{Shape, Body, BodyValue, field, sequence, octets_of, contents, body_octets}

-- The header of a SEQUENCE.
abbrev pub outer_head : (b : Body) → BodyValue b → List ℕ
outer_head b v = head_octets tags.Sequence (length (body_octets b v))

-- The encoding is the header, the first field and the other fields.
parts : (s : Shape) (b : Body) (v : BodyValue (field s b)) → (w : List ℕ) × (octets_of (sequence (field s b)) v ≡ outer_head (field s b) v ++ (octets_of s v.0 ++ w))
unfolding octets_of contents body_octets tlv
parts s b v = (_, refl)

pub first_in_place : (s : Shape) (b : Body) (v : BodyValue (field s b))
    → take (length (octets_of s v.0)) (drop (length (outer_head (field s b) v)) (octets_of (sequence (field s b)) v)) ≡ octets_of s v.0
first_in_place s b v =
    let p = parts s b v in
    let first = octets_of s v.0 in
    let head = outer_head (field s b) v in
    ap (λ (w : List ℕ). take (length first) (drop (length head) w)) p.1
    ∙ ap (take (length first)) (drop_at head (first ++ p.0) (length head) refl)
    ∙ take_at first p.0 (length first) refl
