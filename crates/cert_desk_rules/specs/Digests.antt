-- The answers of the digest verifier.
use Rattle.std.specs.Prelude.{ℕ, List, [], ◌∷◌, ◌++◌, Bool, true, false, ◌==◌, ◌&&◌, bytes_eq}
use Rattle.sha2.specs.Sha256.{sha256}
use Rattle.std.specs.Option.{option_map_or}
use Rattle.cert_desk_bundle.specs.CertParts.Grammar.{Algorithm, algorithm_arcs}
use Rattle.cert_desk_bundle.specs.CertParts.Grammar.{algorithm_parameters, key_bits}
use Rattle.cert_desk_rules.specs.Judging.{Answers}

-- The OID 1.3.6.1.4.1.32473.2, under the arc for examples (RFC 5612).
abbrev pub digest_arcs : List ℕ
digest_arcs = 1 ∷ 3 ∷ 6 ∷ 1 ∷ 4 ∷ 1 ∷ 32473 ∷ 2 ∷ []

-- The algorithm is that one, without parameters.
abbrev pub is_digest : Algorithm → Bool
is_digest a = bytes_eq (algorithm_arcs a) digest_arcs
    && option_map_or (λ _. false) (algorithm_parameters a) true

-- The verifier accepts exactly if the algorithm is that one, and the bits are whole bytes and the
-- SHA-256 digest (FIPS 180-4) over the key's bytes followed by the signed bytes.
unfoldable pub digest_answers : Answers
digest_answers key algorithm signed bits =
    is_digest algorithm
    && ((bits.unused == 0) && bytes_eq bits.octets (sha256 ((key_bits key).octets ++ signed)))
