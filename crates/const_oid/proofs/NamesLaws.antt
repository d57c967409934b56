-- Lemmas about looking up the names of an identifier, and identifiers by name, entry by entry.
use Rattle.std.proofs.Common.{◌≡◌, ℕ, zero, suc, ◌+◌, ◌<◌, Bool, true, false, cond, List, [], ◌∷◌, length, get_or, drop, map, Some, refl, ap, ◌∙◌, arith}
use Rattle.std.specs.Cmp.Lexicographic.{pointwise, bytes_decides}
use Rattle.std.specs.Prelude.{nat_eq}
use Rattle.std.proofs.lemmas.List.{at_drop_more}
use Rattle.std.proofs.lemmas.Bool.Decides.{nat_tests}
use Rattle.const_oid.specs.IdentifierOctets.{identifier_octets}
use Rattle.const_oid.specs.Names.{Entry, names_of, by_name}
use Rattle.std.specs.Char.{to_ascii_lowercase}

any_default : (entries : List Entry) (i : ℕ) (d e : Entry) → i < length entries → get_or entries i d ≡ get_or entries i e
any_default [] i d e l = absurd (omega arith)
any_default (x ∷ entries) zero d e l = refl
any_default (x ∷ entries) (suc i) d e l = any_default entries i d e (omega arith)

at_entry : (arcs : List ℕ) (entries : List Entry) (i : ℕ) (d : Entry) (b : Bool) → i < length entries
    → pointwise nat_eq (identifier_octets (get_or entries i d).0.now) (identifier_octets arcs) ≡ b
    → names_of arcs (drop i entries) ≡ cond b ((get_or entries i d).1.now ∷ names_of arcs (drop (i + 1) entries)) (names_of arcs (drop (i + 1) entries))
at_entry arcs entries i d b l same =
    at_drop_more (names_of arcs) entries i d l
    ∙ ap (λ b. cond b ((get_or entries i d).1.now ∷ names_of arcs (drop (i + 1) entries)) (names_of arcs (drop (i + 1) entries))) same

pub names-match : (arcs : List ℕ) (entries : List Entry) (i : ℕ) (d e : Entry) → i < length entries
    → pointwise nat_eq (identifier_octets (get_or entries i d).0.now) (identifier_octets arcs) ≡ true → names_of arcs (drop i entries) ≡ (get_or entries i e).1.now ∷ names_of arcs (drop (i + 1) entries)
names-match arcs entries i d e l same =
    at_entry arcs entries i d true l same ∙ ap (λ (x : Entry). x.1.now ∷ names_of arcs (drop (i + 1) entries)) (any_default entries i d e l)

pub names-pass : (arcs : List ℕ) (entries : List Entry) (i : ℕ) (d : Entry) → i < length entries
    → pointwise nat_eq (identifier_octets (get_or entries i d).0.now) (identifier_octets arcs) ≡ false → names_of arcs (drop i entries) ≡ names_of arcs (drop (i + 1) entries)
names-pass arcs entries i d l same = at_entry arcs entries i d false l same

-- Looking up a name

by_name_at : (name : List ℕ) (entries : List Entry) (i : ℕ) (d : Entry) (b : Bool) → i < length entries
    → pointwise nat_eq (map to_ascii_lowercase (get_or entries i d).1.now) (map to_ascii_lowercase name) ≡ b
    → by_name name (drop i entries) ≡ cond b (Some (get_or entries i d).0.now) (by_name name (drop (i + 1) entries))
by_name_at name entries i d b l same =
    at_drop_more (by_name name) entries i d l
    ∙ ap (λ b. cond b (Some (get_or entries i d).0.now) (by_name name (drop (i + 1) entries))) same

pub by_name-match : (name : List ℕ) (entries : List Entry) (i : ℕ) (d e : Entry) → i < length entries
    → map to_ascii_lowercase (get_or entries i d).1.now ≡ map to_ascii_lowercase name → by_name name (drop i entries) ≡ Some (get_or entries i e).0.now
by_name-match name entries i d e l same =
    by_name_at name entries i d true l ((bytes_decides (map to_ascii_lowercase (get_or entries i d).1.now) (map to_ascii_lowercase name)).1 same)
    ∙ ap (λ (x : Entry). Some x.0.now) (any_default entries i d e l)

pub by_name-pass : (name : List ℕ) (entries : List Entry) (i : ℕ) (d : Entry) → i < length entries
    → (map to_ascii_lowercase (get_or entries i d).1.now ≡ map to_ascii_lowercase name → ⊥) → by_name name (drop i entries) ≡ by_name name (drop (i + 1) entries)
by_name-pass name entries i d l other =
    by_name_at name entries i d false l (grind (arith, nat_tests, bytes_decides (map to_ascii_lowercase (get_or entries i d).1.now) (map to_ascii_lowercase name)))
