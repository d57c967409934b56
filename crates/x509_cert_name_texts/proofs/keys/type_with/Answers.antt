-- Goals of `keys::type_with` that the checker doesn't prove by itself.
use Rattle.std.proofs.Common.{◌≡◌, refl, ap, ◌∙◌, rules, tests, map, option_map}
use Rattle.std.specs.Slice.Iter.{iter_rest}
use Rattle.std.proofs.lemmas.Iterator.{YieldsList-from_slice}
use Rattle.std.proofs.lemmas.Iterator.Search.{find_from_yields_List}
use Rattle.x509_cert_name_texts.specs.Rows.{row_of, rows, has_octets}
use Rattle.x509_cert_name_texts.proofs.RowLaws.{found_row, row_of_found}
use Rattle.x509_cert_name_texts.proofs.keys.type_with.Goals as goal

pub returns : goal.returns
unfolding rows
returns c =
    let items = iter_rest c.iter.result in
    let same : map row_of items ≡ rows = ap (map row_of) c.iter.ensures.rest in
    let test = has_octets c.args.octets.now in
    row_of_found c.find.result
    ∙ ap (option_map row_of) (find_from_yields_List (λ n. test (row_of n)) _ _ c.find.result c.find.ensures.ran (YieldsList-from_slice items refl) (λ x b q k. search (rules, tests)))
    ∙ found_row test items same
