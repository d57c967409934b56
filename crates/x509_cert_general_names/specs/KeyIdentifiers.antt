-- Key identifiers (RFC 5280 4.2.1.2).
use Rattle.std.specs.Prelude.{ℕ, List}
use Rattle.sha1.specs.Sha1.{sha1}
use Rattle.x509_cert_parts.specs.Grammar.{PublicKey, key_bits}

-- Method (1): the SHA-1 digest of the bytes of the key's bit string, without the count of unused
-- bits.
abbrev pub key_identifier : PublicKey → List ℕ
key_identifier k = sha1 (key_bits k).octets
