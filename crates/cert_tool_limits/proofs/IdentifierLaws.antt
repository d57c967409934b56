-- The encodings of object identifiers below id-ce and id-kp (X.690 8.19).
use Rattle.std.proofs.Common.{◌≡◌, ℕ, ◌<◌, List, [], ◌∷◌, ◌++◌, refl, ap, ◌∙◌}
use Rattle.cert_desk_bundle.specs.Oid.Digits.{digits, digits_within, marked}
use Rattle.cert_desk_bundle.specs.Oid.IdentifierOctets.{arc_octets, identifier_octets}
use Rattle.cert_desk_bundle.specs.CertParts.ExtensionTypes.{id_ce}
use Rattle.cert_desk_bundle.proofs.Oid.EncodingLaws.{arc_octets-one}
use Rattle.cert_tool_limits.specs.Limits.{id_kp}

front_ce : (n : ℕ) → 85 ∷ (arc_octets 29 ++ ((n ∷ []) ++ [])) ≡ 0x55 ∷ 0x1d ∷ n ∷ []
unfolding arc_octets digits digits_within marked
front_ce n = refl

pub ce_octets : (n : ℕ) → n < 128 → identifier_octets (id_ce n) ≡ 0x55 ∷ 0x1d ∷ n ∷ []
unfolding identifier_octets
ce_octets n small = ap (λ (w : List ℕ). 85 ∷ (arc_octets 29 ++ (w ++ []))) (arc_octets-one n small) ∙ front_ce n

front_kp : (n : ℕ)
    → 43 ∷ (arc_octets 6 ++ (arc_octets 1 ++ (arc_octets 5 ++ (arc_octets 5 ++ (arc_octets 7 ++ (arc_octets 3 ++ ((n ∷ []) ++ [])))))))
    ≡ 0x2b ∷ 6 ∷ 1 ∷ 5 ∷ 5 ∷ 7 ∷ 3 ∷ n ∷ []
unfolding arc_octets digits digits_within marked
front_kp n = refl

pub kp_octets : (n : ℕ) → n < 128 → identifier_octets (id_kp n) ≡ 0x2b ∷ 6 ∷ 1 ∷ 5 ∷ 5 ∷ 7 ∷ 3 ∷ n ∷ []
unfolding identifier_octets
kp_octets n small =
    ap (λ (w : List ℕ). 43 ∷ (arc_octets 6 ++ (arc_octets 1 ++ (arc_octets 5 ++ (arc_octets 5 ++ (arc_octets 7 ++ (arc_octets 3 ++ (w ++ [])))))))) (arc_octets-one n small) ∙ front_kp n
