-- Named bits (X.680 22.2), and the bit of each key usage (RFC 5280 4.2.1.3).
use Rattle.std.specs.Prelude.{ℕ, List, [], ◌∷◌, Bool, ◌==◌, ◌^◌, codes, bit_and}

-- The named bit `i` is in the set. Bit 0 is the least significant one.
abbrev pub has_bit : ℕ → ℕ → Bool
has_bit i n = bit_and n (2 ^ i) == 2 ^ i

-- The key usages (RFC 5280 4.2.1.3).
pub data KeyUse : Type 0 where
  digital_signature non_repudiation key_encipherment data_encipherment key_agreement : KeyUse
  key_cert_sign crl_sign encipher_only decipher_only : KeyUse

-- The bit of a key usage in the BIT STRING.
abbrev pub bit_of : KeyUse → ℕ
bit_of digital_signature = 0
bit_of non_repudiation = 1
bit_of key_encipherment = 2
bit_of data_encipherment = 3
bit_of key_agreement = 4
bit_of key_cert_sign = 5
bit_of crl_sign = 6
bit_of encipher_only = 7
bit_of decipher_only = 8

-- Each key usage with its name and its bit.
abbrev pub key_usage_flags : List (List ℕ × ℕ)
key_usage_flags =
    (codes "DigitalSignature", 2 ^ bit_of digital_signature)
    ∷ (codes "NonRepudiation", 2 ^ bit_of non_repudiation)
    ∷ (codes "KeyEncipherment", 2 ^ bit_of key_encipherment)
    ∷ (codes "DataEncipherment", 2 ^ bit_of data_encipherment)
    ∷ (codes "KeyAgreement", 2 ^ bit_of key_agreement)
    ∷ (codes "KeyCertSign", 2 ^ bit_of key_cert_sign)
    ∷ (codes "CRLSign", 2 ^ bit_of crl_sign)
    ∷ (codes "EncipherOnly", 2 ^ bit_of encipher_only)
    ∷ (codes "DecipherOnly", 2 ^ bit_of decipher_only)
    ∷ []
