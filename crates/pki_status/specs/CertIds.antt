-- Which certificate a CertID identifies (RFC 6960 4.1.1).
use Rattle.std.specs.Prelude.{ℕ, ℤ, Bool, false, ◌&&◌, bytes_eq}
use Rattle.std.specs.Option.{option_map_or}
use Rattle.der_core.specs.Integers.{integer_octets}
use Rattle.pki_ocsp.specs.declared.cert_id.CertId.{CertId}
use Rattle.pki_ocsp.specs.declared.single_response.SingleResponse.{SingleResponse}
use Rattle.x509_cert_reading.specs.Certificates.{PlainCertificate, issuer, tbs, tbs_serial}
use Rattle.x509_cert_reading.specs.Names.Names.{PlainName, name_octets}
use Rattle.x509_cert_reading.specs.Parts.Grammar.{PublicKey, key_bits}
use Rattle.pki_status.specs.declared.hash_function.HashFunction.{HashFunction}
use Rattle.pki_status.specs.Hashes.{function_named, hash_by}

-- The issuerNameHash is the hash of the issuer's name, over its DER encoding.
abbrev pub has_name_hash : ℕ → HashFunction → CertId → PlainName → Bool
has_name_hash bound hash id name =
    bytes_eq id.issuer_name_hash (hash_by hash (name_octets bound name))

-- The issuerKeyHash is the hash of the issuer's public key, over the bytes of its bit string.
abbrev pub has_key_hash : HashFunction → CertId → PublicKey → Bool
has_key_hash hash id key = bytes_eq id.issuer_key_hash (hash_by hash (key_bits key).octets)

-- The serialNumber is this number.
abbrev pub has_serial : CertId → ℤ → Bool
has_serial id serial = bytes_eq (integer_octets id.serial_number) (integer_octets serial)

-- The CertID identifies a certificate whose issuer has this key. Its hash function is one that is
-- known here.
abbrev pub identifies : ℕ → CertId → PlainCertificate → PublicKey → Bool
identifies bound id c key = option_map_or
    (λ hash. has_name_hash bound hash id (issuer c)
    && (has_key_hash hash id key && has_serial id (tbs_serial (tbs c))))
    (function_named id.hash_algorithm.oid) false

-- The answer is about this certificate, whose issuer has this key (RFC 6960 4.2.1).
abbrev pub is_about : ℕ → PlainCertificate → PublicKey → SingleResponse → Bool
is_about bound c key answer = identifies bound answer.cert_id c key
