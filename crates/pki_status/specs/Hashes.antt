-- Hash functions by their OIDs (RFC 3370 2.1, RFC 5754 2).
use Rattle.std.specs.Prelude.{ℕ, List, [], ◌∷◌, Option, find}
use Rattle.sha1.specs.Sha1.{sha1}
use Rattle.sha2.specs.Sha256.{sha224, sha256}
use Rattle.sha2.specs.Sha512.{sha384, sha512}
use Rattle.der_core.specs.Oid.Comparing.{owned_eq}
use Rattle.pki_status.specs.declared.hash_function.HashFunction.{HashFunction}
use Rattle.pki_status.specs.declared.hash_function.HashFunction.TheVariants as functions

-- The OID of a hash function.
abbrev pub arcs_of : HashFunction → List ℕ
arcs_of functions.Sha1 = 1 ∷ 3 ∷ 14 ∷ 3 ∷ 2 ∷ 26 ∷ []
arcs_of functions.Sha224 = 2 ∷ 16 ∷ 840 ∷ 1 ∷ 101 ∷ 3 ∷ 4 ∷ 2 ∷ 4 ∷ []
arcs_of functions.Sha256 = 2 ∷ 16 ∷ 840 ∷ 1 ∷ 101 ∷ 3 ∷ 4 ∷ 2 ∷ 1 ∷ []
arcs_of functions.Sha384 = 2 ∷ 16 ∷ 840 ∷ 1 ∷ 101 ∷ 3 ∷ 4 ∷ 2 ∷ 2 ∷ []
arcs_of functions.Sha512 = 2 ∷ 16 ∷ 840 ∷ 1 ∷ 101 ∷ 3 ∷ 4 ∷ 2 ∷ 3 ∷ []

-- The hash functions.
abbrev pub all_functions : List HashFunction
all_functions =
    functions.Sha1 ∷ functions.Sha224 ∷ functions.Sha256 ∷ functions.Sha384 ∷ functions.Sha512 ∷ []

-- The hash function with this OID, if it is one of these.
abbrev pub function_named : List ℕ → Option HashFunction
function_named arcs = find (λ f. owned_eq (arcs_of f) arcs) all_functions

-- The digest of these bytes.
abbrev pub hash_by : HashFunction → List ℕ → List ℕ
hash_by functions.Sha1 octets = sha1 octets
hash_by functions.Sha224 octets = sha224 octets
hash_by functions.Sha256 octets = sha256 octets
hash_by functions.Sha384 octets = sha384 octets
hash_by functions.Sha512 octets = sha512 octets
