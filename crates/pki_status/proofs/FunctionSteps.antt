-- The OIDs of hash functions.
use Rattle.std.proofs.Common.{◌≡◌, Some, refl}
use Rattle.der_core.specs.Oid.Digits.{digits, digits_within, marked}
use Rattle.der_core.specs.Oid.IdentifierOctets.{arc_octets, identifier_octets}
use Rattle.pki_status.specs.declared.hash_function.HashFunction.{HashFunction}
use Rattle.pki_status.specs.declared.hash_function.HashFunction.TheVariants as functions
use Rattle.pki_status.specs.Hashes.{arcs_of, function_named}

-- A hash function has its own OID.
pub named_again : (hash : HashFunction) → function_named (arcs_of hash) ≡ Some hash
unfolding identifier_octets arc_octets digits digits_within marked
named_again functions.Sha1 = refl
named_again functions.Sha224 = refl
named_again functions.Sha256 = refl
named_again functions.Sha384 = refl
named_again functions.Sha512 = refl
