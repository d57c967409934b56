-- JSON strings (RFC 8259 7).
use Rattle.std.specs.Prelude.{ℕ, ◌+◌, ◌-◌, ◌/◌, ◌%◌, List, [], ◌∷◌, ◌++◌, flat_map, codes, Bool}
use Rattle.std.specs.Prelude.{◌&&◌}
use Rattle.std.specs.Prelude.{nat_lt, nat_eq, not, if◌then◌else◌, decimal}
use Rattle.std.specs.Str.{chars}
use Rattle.hex.specs.Hex.{encode_lower}

-- A character without an escape: printable ASCII other than quote and backslash.
abbrev pub is_plain : ℕ → Bool
is_plain c = nat_lt 31 c && nat_lt c 127 && not (nat_eq c 34) && not (nat_eq c 92)

-- The escape of a UTF-16 code unit.
abbrev pub unit_escape : ℕ → List ℕ
unit_escape unit = codes "\\u" ++ encode_lower (unit / 256 ∷ unit % 256 ∷ [])

-- The escape of a character, which is one or two UTF-16 code units.
abbrev pub letter_escape : ℕ → List ℕ
letter_escape c =
    if nat_lt c 65536 then unit_escape c
    else unit_escape (55296 + (c - 65536) / 1024) ++ unit_escape (56320 + (c - 65536) % 1024)

-- The text of a character in a JSON string.
abbrev pub letter_text : ℕ → List ℕ
letter_text c = if is_plain c then c ∷ [] else letter_escape c

-- The text between the quotes of a JSON string.
unfoldable pub escaped_text : List ℕ → List ℕ
escaped_text text = flat_map letter_text (chars text)

-- The JSON object of a certificate: its index, its offset, its number of bytes and its subject,
-- which is escaped already.
abbrev pub place_object : ℕ → ℕ → ℕ → List ℕ → List ℕ
place_object place offset len subject =
    codes "{\"place\":" ++ decimal place ++ codes ",\"offset\":" ++ decimal offset
    ++ codes ",\"length\":" ++ decimal len ++ codes ",\"subject\":\"" ++ subject ++ codes "\"}"
