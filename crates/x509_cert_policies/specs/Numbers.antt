-- The numbers of the enumerations (RFC 5246 7.4.1.4.1; RFC 8422 5.1.3; RFC 6962 3.2).
use Rattle.std.specs.Prelude.{ℕ, List, [], ◌∷◌}
use Rattle.x509_cert_policies.specs.declared.hash_algorithm.HashAlgorithm.{HashAlgorithm}
use Rattle.x509_cert_policies.specs.declared.hash_algorithm.HashAlgorithm.TheVariants as hashes
use Rattle.x509_cert_policies.specs.declared.signature_algorithm.SignatureAlgorithm.{SignatureAlgorithm}
use Rattle.x509_cert_policies.specs.declared.signature_algorithm.SignatureAlgorithm.TheVariants
    as signatures
use Rattle.x509_cert_policies.specs.declared.version.Version.{Version}
use Rattle.x509_cert_policies.specs.declared.version.Version.TheVariants as versions

abbrev pub hash_number : HashAlgorithm → ℕ
hash_number hashes.None = 0
hash_number hashes.Md5 = 1
hash_number hashes.Sha1 = 2
hash_number hashes.Sha224 = 3
hash_number hashes.Sha256 = 4
hash_number hashes.Sha384 = 5
hash_number hashes.Sha512 = 6
hash_number hashes.Intrinsic = 8

abbrev pub hash_numbers : List ℕ
hash_numbers = 0 ∷ 1 ∷ 2 ∷ 3 ∷ 4 ∷ 5 ∷ 6 ∷ 8 ∷ []

abbrev pub signature_number : SignatureAlgorithm → ℕ
signature_number signatures.Anonymous = 0
signature_number signatures.Rsa = 1
signature_number signatures.Dsa = 2
signature_number signatures.Ecdsa = 3
signature_number signatures.Ed25519 = 7
signature_number signatures.Ed448 = 8

abbrev pub signature_numbers : List ℕ
signature_numbers = 0 ∷ 1 ∷ 2 ∷ 3 ∷ 7 ∷ 8 ∷ []

abbrev pub version_number : Version → ℕ
version_number versions.V1 = 0

abbrev pub version_numbers : List ℕ
version_numbers = 0 ∷ []
