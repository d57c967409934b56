-- Lemmas for searching the code's table of attribute types.
use Rattle.std.proofs.Common.{◌≡◌, List, [], ◌∷◌, Bool, true, false, refl, ap, ◌∙◌, Bor, Option, Some, None, map, option_map, if◌then◌else◌, find}
use Rattle.x509_cert_name_texts.specs.Rows.{Row, row_of, rows}
use Rattle.x509_cert_name_texts.specs.declared.keys.Named.{Named}

-- The row of the type that was found.
pub row_of_found : (r : Option (Bor Named)) → option_map (λ n. row_of n.now) r ≡ option_map row_of (option_map (λ n. n.now) r)
row_of_found None = refl
row_of_found (Some n) = refl

by_test : (b : Bool) (n : Named) (x : Option Named) (y : Option Row) → option_map row_of x ≡ y → option_map row_of (if b then Some n else x) ≡ (if b then Some (row_of n) else y)
by_test true n x y e = refl
by_test false n x y e = e

find_through : (test : Row → Bool) (items : List Named) → option_map row_of (find (λ n. test (row_of n)) items) ≡ find test (map row_of items)
find_through test [] = refl
find_through test (n ∷ items) = by_test (test (row_of n)) n (find (λ n. test (row_of n)) items) (find test (map row_of items)) (find_through test items)

pub found_row : (test : Row → Bool) (items : List Named) → map row_of items ≡ rows → option_map row_of (find (λ n. test (row_of n)) items) ≡ find test rows
found_row test items e = find_through test items ∙ ap (find test) e
