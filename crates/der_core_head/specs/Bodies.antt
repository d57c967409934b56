-- Headers under BER, and the bodies of encodings of indefinite length (X.690 8.1.3.6, 8.1.5): a
-- grammar, and a decoder.
use Rattle.std.specs.Prelude.{◌≡◌, ℕ, zero, suc, ◌+◌, ◌-◌, ◌/◌, ◌%◌, List, [], ◌∷◌, ◌++◌}
use Rattle.std.specs.Prelude.{length, drop, Bool, true, false, Option, Some, None, Result, Ok, Err}
use Rattle.std.specs.Prelude.{nat_lt, ◌==◌, ◌&&◌, ◌⊎◌, if◌then◌else◌}
use Rattle.std.specs.List.{concat, AllByRecursion}
use Rattle.der_core_head.specs.declared.encoding_rules.EncodingRules.{EncodingRules}
use Rattle.der_core_head.specs.declared.encoding_rules.EncodingRules.TheVariants as encodings
use Rattle.der_core_head.specs.declared.error.ErrorKind.{ErrorKind}
use Rattle.der_core_head.specs.declared.error.ErrorKind.TheVariants as kinds
use Rattle.der_core_head.specs.declared.tag.Tag.{Tag}
use Rattle.der_core_head.specs.declared.tag.Tag.TheVariants as tags
use Rattle.der_core_head.specs.Octets.{◌>>=◌, Readings}
use Rattle.der_core_head.specs.Limits.{length_max, IsLength, levels_max}
use Rattle.der_core_head.specs.Tags.{IsTag, tag_octets, tag_at}
use Rattle.der_core_head.specs.Heads.{Head, Fits, length_octets, length_at, head_at}

-- The grammar

-- The bytes of a tag under BER: those that it has under DER, or 0x24 for an OCTET STRING in
-- constructed form (X.690 8.7.1).
abbrev pub SpellsTag : Tag → List ℕ → Type 0
SpellsTag t o = (IsTag t × (o ≡ tag_octets t)) ⊎ ((t ≡ tags.OctetString) × (o ≡ 0x24 ∷ []))

-- The bit of the constructed form in the first byte of a tag (X.690 8.1.2.5).
abbrev pub is_constructed_at : List ℕ → Bool
is_constructed_at [] = false
is_constructed_at (b ∷ w) = ((b / 32) % 2) == 1

-- An encoding of definite length. Its content isn't decoded.
abbrev pub IsDefinite : List ℕ → Type 0
IsDefinite b = (t : Tag) × (o c : List ℕ) × SpellsTag t o × Fits c
    × (b ≡ o ++ (length_octets (length c) ++ c))

-- An encoding of indefinite length (X.690 8.1.3.6): a constructed tag, the byte 0x80, and a body.
abbrev pub IsIndefinite : (List ℕ → Type 0) → List ℕ → Type 0
IsIndefinite IsInner b = (t : Tag) × (o c : List ℕ) × SpellsTag t o × (is_constructed_at o ≡ true)
    × IsInner c × (b ≡ o ++ (0x80 ∷ c))

-- The body of an encoding of indefinite length: encodings, followed by the end-of-contents bytes
-- (X.690 8.1.5). At most this many levels are open in it, including its own.
unfoldable pub IsIndefiniteBody : ℕ → List ℕ → Type 0
IsIndefiniteBody zero b = ⊥
IsIndefiniteBody (suc k) b =
    (items : List (List ℕ))
    × AllByRecursion (λ i. IsDefinite i ⊎ IsIndefinite (IsIndefiniteBody k) i) items
    × (b ≡ concat items ++ (0 ∷ 0 ∷ []))

-- The bytes `l` of a length, after those of a tag and before the bytes `r`. Either they are the DER
-- encoding of the length, or the tag is constructed, they are the byte 0x80, and `r` begins with a
-- body of that length.
abbrev pub SpellsLength : List ℕ → ℕ → List ℕ → List ℕ → Type 0
SpellsLength o n l r =
    (IsLength n × (l ≡ length_octets n))
    ⊎ ((is_constructed_at o ≡ true) × (l ≡ 0x80 ∷ []) × (b more : List ℕ)
    × IsIndefiniteBody levels_max b × Fits b × (n ≡ length b) × (r ≡ b ++ more))

-- The bytes are a header under BER, followed by the bytes `r`.
abbrev pub SpellsHead : Head → List ℕ → List ℕ → Type 0
SpellsHead h r w = (o l : List ℕ) × SpellsTag h.tag o × SpellsLength o h.len l r
    × (w ≡ o ++ (l ++ r))

-- Decoding

-- Decodes a tag under BER.
unfoldable pub tag_ber_at : Readings Tag
tag_ber_at [] = Err kinds.Incomplete
tag_ber_at (b ∷ w) = if b == 0x24 then Ok (tags.OctetString, w) else tag_at (b ∷ w)

-- A tag and the number of its content bytes, or `None` if the length is indefinite.
pub record Mark : Type 0 where
  pub tag : Tag
  pub len : Option ℕ

-- Decodes a length under BER after a tag. The length may be indefinite if the tag is constructed.
abbrev pub length_ber_at : Bool → Tag → Readings (Option ℕ)
length_ber_at constructed t [] = Err kinds.Incomplete
length_ber_at constructed t (b ∷ w) =
    if constructed && (b == 0x80) then Ok (None, w)
    else (length_at t (b ∷ w) >>= λ n. Ok (Some n.0, n.1))

-- Decodes a tag and the length after it.
unfoldable pub mark_at : Readings Mark
mark_at w = tag_ber_at w >>= λ t. length_ber_at (is_constructed_at w) t.0 t.1
    >>= λ n. Ok (record { tag = t.0; len = n.0 }, n.1)

-- A part of a body: the end of a level, the header of a deeper level, or an encoding of definite
-- length.
pub data Piece : Type 0 where
  ending : Piece
  opening : Piece
  encoding : Piece

-- Decodes the end-of-contents bytes (X.690 8.1.5).
abbrev pub end_at : Readings Piece
end_at [] = Err kinds.Incomplete
end_at (b ∷ w) = if b == 0 then Ok (ending, w) else Err kinds.TagUnknown

-- The content after a header.
abbrev pub content_at : Option ℕ → Readings Piece
content_at None w = Ok (opening, w)
content_at (Some n) w = if nat_lt (length w) n then Err kinds.Incomplete
    else Ok (encoding, drop n w)

-- Decodes the next part of a body.
unfoldable pub piece_at : Readings Piece
piece_at [] = Err kinds.Incomplete
piece_at (b ∷ w) = if b == 0 then end_at w else (mark_at (b ∷ w) >>= λ m. content_at m.0.len m.1)

-- The numbers of levels that are open after a part, and of those that may still be opened.
abbrev pub levels_after : Piece → ℕ → ℕ → Result (ℕ × ℕ) ErrorKind
levels_after ending levels room = Ok (levels - 1, room + 1)
levels_after opening levels room = if room == 0 then Err kinds.NestingDepth
    else Ok (levels + 1, room - 1)
levels_after encoding levels room = Ok (levels, room)

-- The bytes after the end of all open levels, which end within this many parts.
unfoldable pub closed_at : ℕ → ℕ → ℕ → List ℕ → Result (List ℕ) ErrorKind
closed_at pieces zero room w = Ok w
closed_at zero (suc levels) room w = Err kinds.Incomplete
closed_at (suc pieces) (suc levels) room w = piece_at w >>= λ p. levels_after p.0 (suc levels) room
    >>= λ l. closed_at pieces l.0 l.1 p.1

-- The number of bytes of the body with which the bytes begin.
unfoldable pub body_len_at : List ℕ → Result ℕ ErrorKind
body_len_at w = closed_at (length w) 1 (levels_max - 1) w
    >>= λ r. if nat_lt length_max (length w - length r) then Err kinds.Overflow
    else Ok (length w - length r)

-- The number of content bytes, which for an indefinite length is that of the body.
abbrev pub len_at : Option ℕ → List ℕ → Result ℕ ErrorKind
len_at None w = body_len_at w
len_at (Some n) w = Ok n

-- A header under BER. If its length is indefinite, the decoded length is that of the body with its
-- end-of-contents bytes.
unfoldable pub head_ber_at : Readings Head
head_ber_at w = mark_at w >>= λ m. len_at m.0.len m.1
    >>= λ n. Ok (record { tag = m.0.tag; len = n }, m.1)

-- Decoding under either encoding rules

-- The decoder of headers under these rules.
abbrev pub head_by : EncodingRules → Readings Head
head_by encodings.Der = head_at
head_by encodings.Ber = head_ber_at

-- The decoder of tags under these rules.
abbrev pub tag_by : EncodingRules → Readings Tag
tag_by encodings.Der = tag_at
tag_by encodings.Ber = tag_ber_at
