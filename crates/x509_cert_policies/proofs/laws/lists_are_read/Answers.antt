-- Goals of `laws::lists_are_read` that the checker doesn't prove by itself.
use Rattle.std.proofs.Common.{◌≡◌, ◌≢◌, ℕ, List, [], ◌∷◌, ◌++◌, length, refl, sym, ap, ◌∙◌, append_assoc, arith, inl, inr, map, flat_map, All, length-append, append-nil}
use Rattle.std.proofs.lemmas.List.Elements.{All-head, All-tail}
use Rattle.x509_cert_policies.specs.declared.serialized_sct.SerializedSct.{SerializedSct}
use Rattle.x509_cert_policies.specs.declared.tls_error.TlsError.{TlsError}
use Rattle.x509_cert_policies.specs.Forms.{vector, octets, Spells, Refuses}
use Rattle.x509_cert_policies.specs.Lists.{sct_data, sct_octets, IsMember, SpellsList, RefusesList}
use Rattle.x509_cert_policies.proofs.Readings.{vector_length, spelled_once, spelled_not_refused}
use Rattle.x509_cert_policies.proofs.laws.lists_are_read.Goals as goal

-- Bytes are the encoding of at most one list, and are then not rejected.
first_spelled : (x : SerializedSct) (xs : List SerializedSct) → All IsMember (x ∷ xs) → Spells vector (sct_data x) (flat_map sct_octets (x ∷ xs)) (flat_map sct_octets xs)
first_spelled x xs all = record { value = All-head IsMember x xs all; split = refl }

never_nothing : (x : SerializedSct) (w : List ℕ) → [] ≡ sct_octets x ++ w → ⊥
never_nothing x w e = omega (arith, ap length e, length-append (sct_octets x) w, vector_length (sct_data x))

members_once : (xs ys : List SerializedSct) → All IsMember xs → All IsMember ys → flat_map sct_octets xs ≡ flat_map sct_octets ys → map sct_data xs ≡ map sct_data ys
members_once [] [] p q e = refl
members_once [] (y ∷ ys) p q e = absurd (never_nothing y (flat_map sct_octets ys) e)
members_once (x ∷ xs) [] p q e = absurd (never_nothing x (flat_map sct_octets xs) (sym e))
members_once (x ∷ xs) (y ∷ ys) p q e =
    let first = spelled_once vector (sct_data x) (sct_data y) (flat_map sct_octets (x ∷ xs)) (flat_map sct_octets xs) (flat_map sct_octets ys) (first_spelled x xs p) (record { value = All-head IsMember y ys q; split = e }) in
    let others : map sct_data xs ≡ map sct_data ys = members_once xs ys (All-tail IsMember x xs p) (All-tail IsMember y ys q) first.1 in
    let same : sct_data x ≡ sct_data y = first.0 in
    ap (λ (w : List ℕ). w ∷ map sct_data xs) same ∙ ap (λ (ws : List (List ℕ)). sct_data y ∷ ws) others

members_not_refused : (xs zs : List SerializedSct) (more : List ℕ) (e : TlsError) → All IsMember xs → All IsMember zs → flat_map sct_octets xs ≡ flat_map sct_octets zs ++ more → more ≢ [] → Refuses vector more e → ⊥
members_not_refused [] [] more e p q is left refused = left (sym is)
members_not_refused (x ∷ xs) [] more e p q is left refused =
    spelled_not_refused vector (sct_data x) more (flat_map sct_octets xs) e (record { value = All-head IsMember x xs p; split = sym is }) refused
members_not_refused [] (z ∷ zs) more e p q is left refused =
    never_nothing z (flat_map sct_octets zs ++ more) (is ∙ append_assoc (sct_octets z) (flat_map sct_octets zs) more)
members_not_refused (x ∷ xs) (z ∷ zs) more e p q is left refused =
    let first = spelled_once vector (sct_data x) (sct_data z) (flat_map sct_octets (x ∷ xs)) (flat_map sct_octets xs) (flat_map sct_octets zs ++ more) (first_spelled x xs p)
    (record { value = All-head IsMember z zs q; split = is ∙ append_assoc (sct_octets z) (flat_map sct_octets zs) more }) in
    members_not_refused xs zs more e (All-tail IsMember x xs p) (All-tail IsMember z zs q) first.1 left refused

as_vector : (xs : List SerializedSct) (input : List ℕ) → SpellsList xs input → Spells vector (flat_map sct_octets xs) input []
as_vector xs input p = record { value = p.listed.together; split = p.spelled ∙ sym (append-nil (octets vector (flat_map sct_octets xs))) }

list_once : (xs ys : List SerializedSct) (input : List ℕ) → SpellsList xs input → SpellsList ys input → map sct_data xs ≡ map sct_data ys
list_once xs ys input p q =
    let body = spelled_once vector (flat_map sct_octets xs) (flat_map sct_octets ys) input [] [] (as_vector xs input p) (as_vector ys input q) in
    members_once xs ys p.listed.each q.listed.each body.0

list_not_refused : (xs : List SerializedSct) (input : List ℕ) (e : TlsError) → SpellsList xs input → RefusesList input e → ⊥
list_not_refused xs input e p (inl (inl refused)) = spelled_not_refused vector (flat_map sct_octets xs) input [] e (as_vector xs input p) refused
list_not_refused xs input e p (inl (inr (v, rest, spelled, left, _))) =
    let body = spelled_once vector (flat_map sct_octets xs) v input [] rest (as_vector xs input p) spelled in
    left (sym body.1)
list_not_refused xs input e p (inr (v, spelled, after)) =
    let body = spelled_once vector (flat_map sct_octets xs) v input [] [] (as_vector xs input p) spelled in
    members_not_refused xs after.scts after.more e p.listed.each after.each (body.0 ∙ after.parts) after.is_more after.refused

pub returns : goal.returns
returns c = record { once = list_once; read = list_not_refused }
