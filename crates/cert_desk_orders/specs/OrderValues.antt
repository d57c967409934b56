-- The values in orders files: bytes and keys in base 16, and path lengths.
use Rattle.std.specs.Prelude.{ℕ, List, length, ◌&&◌, nat_lt, if◌then◌else◌, Option, Some, None}
use Rattle.std.specs.Option.{option_and_then, option_map}
use Rattle.std.specs.Result.{result_ok}
use Rattle.std.specs.Str.{all_ascii_digits}
use Rattle.std.specs.Str.Parse.{digits_value}
use Rattle.x509_cert_parts.specs.Oid.Bound.{Bound}
use Rattle.x509_cert_parts.specs.Der.Grammar.{read_whole}
use Rattle.hex.specs.Hex.{decode_of}
use Rattle.x509_cert_parts.specs.Grammar.{PublicKey, public_key_info}

-- The bytes of a text in base 16.
abbrev pub octets_in : List ℕ → Option (List ℕ)
octets_in text = result_ok (decode_of text)

-- The key that all of these bytes encode (RFC 5280 4.1.2.7).
abbrev pub key_read : List ℕ → Option PublicKey
key_read octets =
    option_map (λ read. read.0) (result_ok (read_whole (public_key_info Bound) octets))

-- The key whose encoding in base 16 this is.
abbrev pub key_in : List ℕ → Option PublicKey
key_in text = option_and_then key_read (octets_in text)

-- The number of one or more decimal digits, if it is at most 255.
abbrev pub length_in : List ℕ → Option ℕ
length_in text =
    if nat_lt 0 (length text) && all_ascii_digits text && nat_lt (digits_value 10 text) 256
    then Some (digits_value 10 text) else None
