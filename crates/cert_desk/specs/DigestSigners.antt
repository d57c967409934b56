-- The signatures of a signer of digests.
use Rattle.std.specs.Prelude.{ℕ, List, IsTrue}
use Rattle.cert_desk_listing.specs.Der.BitStrings.{Bits}
use Rattle.cert_desk_orders.specs.CertParts.Grammar.{Algorithm, PublicKey, plain_algorithm}
use Rattle.cert_desk_checking.specs.DeskRules.Digests.{digest_arcs, digest_answers}

-- The algorithm with the OID 1.3.6.1.4.1.32473.2 and without parameters.
abbrev pub digest_algorithm : Algorithm
digest_algorithm = plain_algorithm digest_arcs

-- The digest verifier accepts these bits over these bytes, under this key.
abbrev pub IsDigestOf : PublicKey → List ℕ → Bits → Type 0
IsDigestOf key octets bits = IsTrue (digest_answers key digest_algorithm octets bits)
