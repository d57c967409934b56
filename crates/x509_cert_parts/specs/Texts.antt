-- The texts of serial numbers and dates, by their abstract values.
use Rattle.std.specs.Prelude.{ℕ, ℤ, List}
use Rattle.std.proofs.Common.{inl, inr}
use Rattle.der_core.specs.Integers.{integer_octets}
use Rattle.x509_cert_parts.specs.Grammar.{PlainTime}
use Rattle.x509_cert_parts.specs.SerialNumbers.{colon_pairs}
use Rattle.der_types.specs.DateTexts.{date_text}

-- The content bytes of a serial number as pairs of uppercase hexadecimal digits, joined by colons.
abbrev pub serial_text : ℤ → List ℕ
serial_text n = colon_pairs (integer_octets n)

-- YYYY-MM-DDTHH:MM:SSZ, for both encodings.
unfoldable pub time_text : PlainTime → List ℕ
time_text (inl date) = date_text date
time_text (inr date) = date_text date
