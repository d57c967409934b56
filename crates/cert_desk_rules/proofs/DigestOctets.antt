-- The encoding of the OID of the digest verifier's algorithm.
use Rattle.std.proofs.Common.{◌≡◌, ℕ, List, [], ◌∷◌, refl, sym, ap, ◌∙◌, arith}
use Rattle.cert_desk_bundle.specs.Oid.Arcs.{arcs_of}
use Rattle.cert_desk_bundle.specs.Oid.Bound.{Bound}
use Rattle.cert_desk_bundle.specs.Oid.Digits.{digits, digits_within, marked}
use Rattle.cert_desk_bundle.specs.Oid.IdentifierOctets.{arc_octets, identifier_octets, IsIdentifier}
use Rattle.cert_desk_bundle.proofs.Oid.ArcsLaws.{arcs_of-identifier_octets}
use Rattle.cert_desk_rules.specs.Digests.{digest_arcs}

abbrev pub digest_octets : List ℕ
digest_octets = 0x2b ∷ 0x06 ∷ 0x01 ∷ 0x04 ∷ 0x01 ∷ 0x81 ∷ 0xfd ∷ 0x59 ∷ 0x02 ∷ []

pub digest_octets-is : identifier_octets digest_arcs ≡ digest_octets
unfolding identifier_octets arc_octets digits digits_within marked
digest_octets-is = refl

pub is_identifier : IsIdentifier Bound digest_arcs
unfolding IsIdentifier Bound
is_identifier = (omega arith, omega arith, (omega arith, (omega arith, (omega arith, (omega arith, (omega arith, (omega arith, tt)))))))

-- Two OIDs with the same encoding have the same arcs.
pub same_arcs : (a b : List ℕ) → IsIdentifier Bound a → IsIdentifier Bound b → identifier_octets a ≡ identifier_octets b → a ≡ b
same_arcs a b p q e = sym (arcs_of-identifier_octets Bound a p) ∙ ap arcs_of e ∙ arcs_of-identifier_octets Bound b q
