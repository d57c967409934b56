-- Lemmas for `wider_bounds_keep_names`: encodings of names under two bounds on arcs.
use Rattle.std.proofs.Common.{◌≡◌, ℕ, ◌≤◌, List, [], ◌∷◌, ◌++◌, Ok, refl, sym, ap, subst, ◌∙◌, ◌↔◌, flat_map, map}
use Rattle.std.proofs.lemmas.List.{map-append}
use Rattle.der_core.specs.Bounds.{IsValidUnder, identifiers_of, AreBelow}
use Rattle.der_core.specs.Grammar.{read_whole}
use Rattle.der_core.specs.Octets.{IsOctets}
use Rattle.der_core.specs.Shapes.{IsValid, Spells, octets_of}
use Rattle.der_core.proofs.BoundLaws.{Family, valid_wider, valid_narrow, spelled_exactly, whole_wider}
use Rattle.x509_cert_names.specs.Names.{PlainName, RelativeName, type_and_value, relative_name, name, type_of, all_of}

-- The OIDs in a name are the types of its attributes.

each_type : (r : RelativeName) → flat_map (λ a. identifiers_of (type_and_value 0) a) r ≡ map type_of r
unfolding identifiers_of
each_type [] = refl
each_type (a ∷ r) = ap (λ (ids : List (List ℕ)). type_of a ∷ ids) (each_type r)

each_name : (n : List RelativeName) → flat_map (λ r. identifiers_of (relative_name 0) r) n ≡ map type_of (flat_map (λ r. r) n)
unfolding identifiers_of
each_name [] = refl
each_name (r ∷ n) =
    ap (λ (ids : List (List ℕ)). ids ++ flat_map (λ r. identifiers_of (relative_name 0) r) n) (each_type r)
    ∙ ap (λ (ids : List (List ℕ)). map type_of r ++ ids) (each_name n)
    ∙ sym (map-append type_of r (flat_map (λ r. r) n))

pub of_name : (n : PlainName) → identifiers_of (name 0) n ≡ map type_of (all_of n)
unfolding identifiers_of
of_name n = each_name n

-- One shape for each bound.

bounds_alike : (bound : ℕ) (n : PlainName) → (IsValid (name bound) n ↔ IsValidUnder bound (name 0) n) × (octets_of (name bound) n ≡ octets_of (name 0) n)
unfolding IsValid IsValidUnder octets_of
bounds_alike bound n = ((λ h. h, λ h. h), refl)

abbrev names : Family (name 0) name
names = record {
  at = λ b n. n;
  judged = λ b n. (bounds_alike b n).0;
  spelled = λ b n. (bounds_alike b n).1;
  element = λ b. refl;
  apart = λ b. refl;
  enough = λ b. refl;
}

abbrev IsLow : ℕ → List (List ℕ) → Type 0
IsLow bound ids = AreBelow bound ids

pub names_alike : (small large : ℕ) (n : PlainName) → small ≤ large → AreBelow small (map type_of (all_of n)) → IsValid (name small) n ↔ IsValid (name large) n
names_alike small large n le low =
    (λ v. valid_wider (name 0) name names small large n le v, λ v. valid_narrow (name 0) name names small large n v (subst (IsLow small) (sym (of_name n)) low))

pub names_exactly : (small large : ℕ) (n : PlainName) (w : List ℕ) → 40 ≤ small → small ≤ large
    → Spells (name small) n w ↔ (Spells (name large) n w × AreBelow small (map type_of (all_of n)))
names_exactly small large n w root le =
    let e = spelled_exactly (name 0) name names small large n w root le in
    (λ h. let p = e.0 h in (p.0, subst (IsLow small) (of_name n) p.1), λ p. e.1 (p.0, subst (IsLow small) (sym (of_name n)) p.1))

pub whole_names_wider : (small large : ℕ) (n : PlainName) (w : List ℕ) → small ≤ large → IsOctets w → read_whole (name small) w ≡ Ok (n, []) → read_whole (name large) w ≡ Ok (n, [])
whole_names_wider small large n w le o e = whole_wider (name 0) name names small large n w le o e
