-- Goals of `laws::identifiers_stand_in_turn` that the checker doesn't prove by itself.
use Rattle.std.proofs.Common.{◌≡◌, ℕ, List, [], ◌∷◌, ◌++◌, Option, Some, None, refl, ap, ◌∙◌, append_assoc, append-nil, inl, inr, flat_map, map}
use Rattle.std.specs.Option.{option_map_or}
use Rattle.der_core.specs.BitStrings.{Bits}
use Rattle.der_core.specs.Leaves.{bits}
use Rattle.der_core.specs.Shapes.{AnyValue, any, optional, explicit}
use Rattle.der_core.specs.Bounds.{identifiers_of}
use Rattle.x509_cert_names.specs.Names.{name}
use Rattle.x509_cert_parts.specs.Grammar.{Algorithm, PublicKey, PlainTime, PlainValidity, PlainExtension, algorithm_identifier, algorithm_arcs, public_key_info, key_algorithm, extension, extension_arcs, extensions, implicit_leaf, time, validity}
use Rattle.x509_cert_certificates.specs.Bounds.{certificate_identifiers}
use Rattle.x509_cert_names.proofs.NameBounds.{of_name}
use Rattle.x509_cert_certificates.specs.Certificates.{PlainCertificate, inner_algorithm, issuer, subject, public_key, outer_algorithm, tbs, tbs_extensions, tbs_validity, tbs_issuer_unique_id, tbs_subject_unique_id}
use Rattle.x509_cert_certificates.proofs.laws.identifiers_stand_in_turn.Goals as goal

-- The OIDs in the parts of a certificate.
of_parameters : (v : Option AnyValue) → identifiers_of (optional any) v ≡ []
unfolding identifiers_of
of_parameters None = refl
of_parameters (Some v) = refl

of_algorithm : (a : Algorithm) → identifiers_of (algorithm_identifier 0) a ≡ algorithm_arcs a ∷ []
unfolding identifiers_of
of_algorithm a = ap (λ (ids : List (List ℕ)). algorithm_arcs a ∷ (ids ++ [])) (of_parameters a.1.0)

of_time : (t : PlainTime) → identifiers_of time t ≡ []
unfolding identifiers_of
of_time (inl c) = refl
of_time (inr c) = refl

of_validity : (v : PlainValidity) → identifiers_of validity v ≡ []
unfolding identifiers_of
of_validity v = rw (of_time v.0, of_time v.1.0) refl

of_unique : (n : ℕ) (v : Option Bits) → identifiers_of (optional (implicit_leaf n bits)) v ≡ []
unfolding identifiers_of
of_unique n None = refl
of_unique n (Some v) = refl

of_key : (k : PublicKey) → identifiers_of (public_key_info 0) k ≡ algorithm_arcs (key_algorithm k) ∷ []
unfolding identifiers_of
of_key k = ap (λ (ids : List (List ℕ)). ids ++ []) (of_algorithm k.0)

each_extension : (es : List PlainExtension) → flat_map (λ e. identifiers_of (extension 0) e) es ≡ map extension_arcs es
unfolding identifiers_of
each_extension [] = refl
each_extension (e ∷ es) = ap (λ (ids : List (List ℕ)). extension_arcs e ∷ ids) (each_extension es)

of_extensions : (o : Option (List PlainExtension)) → identifiers_of (optional (explicit 3 (extensions 0))) o ≡ map extension_arcs (option_map_or (λ es. es) o [])
unfolding identifiers_of
of_extensions None = refl
of_extensions (Some es) = each_extension es

join : (a i v s k u w e o : List (List ℕ)) → v ≡ [] → u ≡ [] → w ≡ []
    → (a ++ (i ++ (v ++ (s ++ (k ++ (u ++ (w ++ (e ++ [])))))))) ++ (o ++ []) ≡ a ++ (i ++ (s ++ (k ++ (e ++ o))))
join a i v s k u w e o none first second = rw (none, first, second, append-nil e, append-nil o) (simp append_assoc refl)

parts : (c : PlainCertificate) → certificate_identifiers c
    ≡ identifiers_of (algorithm_identifier 0) (inner_algorithm c) ++ (identifiers_of (name 0) (issuer c) ++ (identifiers_of (name 0) (subject c)
    ++ (identifiers_of (public_key_info 0) (public_key c) ++ (identifiers_of (optional (explicit 3 (extensions 0))) (tbs_extensions (tbs c)) ++ identifiers_of (algorithm_identifier 0) (outer_algorithm c)))))
unfolding certificate_identifiers identifiers_of
parts c =
    join (identifiers_of (algorithm_identifier 0) (inner_algorithm c)) (identifiers_of (name 0) (issuer c)) (identifiers_of validity (tbs_validity (tbs c)))
    (identifiers_of (name 0) (subject c)) (identifiers_of (public_key_info 0) (public_key c)) (identifiers_of (optional (implicit_leaf 1 bits)) (tbs_issuer_unique_id (tbs c)))
    (identifiers_of (optional (implicit_leaf 2 bits)) (tbs_subject_unique_id (tbs c))) (identifiers_of (optional (explicit 3 (extensions 0))) (tbs_extensions (tbs c)))
    (identifiers_of (algorithm_identifier 0) (outer_algorithm c))
    (of_validity (tbs_validity (tbs c))) (of_unique 1 (tbs_issuer_unique_id (tbs c))) (of_unique 2 (tbs_subject_unique_id (tbs c)))

pub returns : goal.returns
returns _ = λ c. parts c ∙ rw (of_algorithm (inner_algorithm c), of_name (issuer c), of_name (subject c), of_key (public_key c), of_extensions (tbs_extensions (tbs c)), of_algorithm (outer_algorithm c)) refl
