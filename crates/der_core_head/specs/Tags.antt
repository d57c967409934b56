-- Tags: their encodings and their decoder (X.690 8.1.2).
use Rattle.std.specs.Prelude.{ℕ, ◌+◌, ◌*◌, ◌/◌, ◌%◌, ◌<◌, List, [], ◌∷◌, Bool, Option, Some, None}
use Rattle.std.specs.Prelude.{Result, Ok, Err, nat_lt, ◌==◌, ◌&&◌, if◌then◌else◌, find}
use Rattle.const_oid.specs.Digits.{digits, marked}
use Rattle.der_core_head.specs.declared.error.ErrorKind.{ErrorKind}
use Rattle.der_core_head.specs.declared.error.ErrorKind.TheVariants as kinds
use Rattle.der_core_head.specs.declared.tag.Tag.{Tag}
use Rattle.der_core_head.specs.declared.tag.Tag.TheVariants as tags
use Rattle.der_core_head.specs.Octets.{◌>>=◌, Readings}

-- The first byte of a tag: two bits of the class, the bit of the constructed form, and five bits of
-- the number.
abbrev pub leading : ℕ → Bool → ℕ → ℕ
leading class constructed low = 64 * class + (if constructed then 32 else 0) + low

-- The five bits of the number, all of which are set if the number is in the bytes after them.
abbrev pub low_bits : ℕ → ℕ
low_bits n = if nat_lt n 31 then n else 31

-- The first byte of a tag.
abbrev pub leading_octet : Tag → ℕ
leading_octet tags.Boolean = 0x01
leading_octet tags.Integer = 0x02
leading_octet tags.BitString = 0x03
leading_octet tags.OctetString = 0x04
leading_octet tags.Null = 0x05
leading_octet tags.ObjectIdentifier = 0x06
leading_octet tags.Real = 0x09
leading_octet tags.Enumerated = 0x0a
leading_octet tags.Utf8String = 0x0c
leading_octet tags.RelativeOid = 0x0d
leading_octet tags.Sequence = 0x30
leading_octet tags.Set = 0x31
leading_octet tags.NumericString = 0x12
leading_octet tags.PrintableString = 0x13
leading_octet tags.TeletexString = 0x14
leading_octet tags.VideotexString = 0x15
leading_octet tags.Ia5String = 0x16
leading_octet tags.UtcTime = 0x17
leading_octet tags.GeneralizedTime = 0x18
leading_octet tags.VisibleString = 0x1a
leading_octet tags.GeneralString = 0x1b
leading_octet tags.BmpString = 0x1e
leading_octet (tags.Application constructed number) = leading 1 constructed (low_bits number.value)
leading_octet (tags.ContextSpecific constructed number) =
    leading 2 constructed (low_bits number.value)
leading_octet (tags.Private constructed number) = leading 3 constructed (low_bits number.value)

-- The number of a tag.
abbrev pub number_of : Tag → ℕ
number_of (tags.Application constructed number) = number.value
number_of (tags.ContextSpecific constructed number) = number.value
number_of (tags.Private constructed number) = number.value
number_of t = leading_octet t % 32

-- The bytes of a number that doesn't fit the first byte (X.690 8.1.2.4).
abbrev pub number_octets : ℕ → List ℕ
number_octets n = if nat_lt n 31 then [] else marked (digits 128 n)

-- The encoding of a tag.
unfoldable pub tag_octets : Tag → List ℕ
tag_octets t = leading_octet t ∷ number_octets (number_of t)

-- A tag whose number has at most 32 bits.
abbrev pub IsTag : Tag → Type 0
IsTag t = number_of t < 4294967296

-- Two tags have the same encoding.
abbrev pub same_tag : Tag → Tag → Bool
same_tag a b = (leading_octet a == leading_octet b) && (number_of a == number_of b)

-- The bit of the constructed form.
abbrev pub is_constructed : Tag → Bool
is_constructed t = ((leading_octet t / 32) % 2) == 1

-- A context-specific tag.
abbrev pub context : Bool → ℕ → Tag
context constructed n = tags.ContextSpecific constructed (record { value = n })

-- The tag of an implicitly tagged value, which is constructed if the value's own tag is.
abbrev pub implicit_tag : ℕ → Tag → Tag
implicit_tag n t = context (is_constructed t) n

-- The tags of the universal class that are accepted.
abbrev pub universal_tags : List Tag
universal_tags =
    tags.Boolean ∷ tags.Integer ∷ tags.BitString ∷ tags.OctetString ∷ tags.Null
    ∷ tags.ObjectIdentifier ∷ tags.Real ∷ tags.Enumerated
    ∷ tags.Utf8String ∷ tags.RelativeOid ∷ tags.Sequence ∷ tags.Set ∷ tags.NumericString
    ∷ tags.PrintableString ∷ tags.TeletexString
    ∷ tags.VideotexString ∷ tags.Ia5String ∷ tags.UtcTime ∷ tags.GeneralizedTime
    ∷ tags.VisibleString ∷ tags.GeneralString ∷ tags.BmpString ∷ []

-- The universal tag with this first byte.
unfoldable pub universal_tag : ℕ → Option Tag
universal_tag octet = find (λ t. leading_octet t == octet) universal_tags

-- A tag of this class, which isn't the universal one.
abbrev pub class_tag : ℕ → Bool → ℕ → Tag
class_tag class constructed n =
    if class == 1 then tags.Application constructed (record { value = n })
    else if class == 2 then tags.ContextSpecific constructed (record { value = n })
    else tags.Private constructed (record { value = n })

-- Decodes the digits of a tag number, after digits of value `n`. The error is at the byte with
-- which the number exceeds 32 bits.
unfoldable pub digits_at : ℕ → Readings ℕ
digits_at n [] = Err kinds.Incomplete
digits_at n (d ∷ w) =
    if nat_lt (128 * n + d % 128) 4294967296
    then (if nat_lt d 128 then Ok (128 * n + d, w) else digits_at (128 * n + d % 128) w)
    else Err kinds.TagNumberInvalid

-- Decodes a tag number of 31 or more, without leading zero digits.
unfoldable pub number_at : Readings ℕ
number_at [] = Err kinds.Incomplete
number_at (d ∷ w) =
    if d == 128 then Err kinds.TagNumberInvalid
    else (digits_at 0 (d ∷ w) >>= λ n. if nat_lt n.0 31 then Err kinds.TagNumberInvalid else Ok n)

-- Gives the universal tag, or `TagUnknown` if it isn't supported.
abbrev pub known_tag : Option Tag → List ℕ → Result (Tag × List ℕ) ErrorKind
known_tag (Some t) w = Ok (t, w)
known_tag None w = Err kinds.TagUnknown

-- Decodes a tag under DER.
unfoldable pub tag_at : Readings Tag
tag_at [] = Err kinds.Incomplete
tag_at (octet ∷ w) =
    if nat_lt octet 64 then known_tag (universal_tag octet) w
    else if (octet % 32) == 31
    then (number_at w >>= λ n. Ok (class_tag (octet / 64) (((octet / 32) % 2) == 1) n.0, n.1))
    else Ok (class_tag (octet / 64) (((octet / 32) % 2) == 1) (octet % 32), w)
