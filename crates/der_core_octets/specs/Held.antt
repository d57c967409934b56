-- The abstract values of borrowed bytes and of borrowed text.
use Rattle.std.specs.Prelude.{ℕ, List}
use Rattle.der_core_octets.specs.declared.bytes_ref.BytesRef.{BytesRef}
use Rattle.der_core_octets.specs.declared.string_ref.StringRef.{StringRef}

-- The borrowed bytes.
abbrev pub held_octets : BytesRef → List ℕ
held_octets b = b.bytes.now

-- The borrowed text in UTF-8.
abbrev pub held_text : StringRef → List ℕ
held_text s = s.text.now
