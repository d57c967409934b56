-- Goals of `parsed_arguments::parts_of` that the checker doesn't prove by itself.
use Rattle.std.proofs.Common.{◌+◌, lit<, Some, None, length, take, drop, take_all, le_of_eq, refl, ap, sym, ◌∙◌, arith}
use Rattle.std.proofs.lemmas.List.{drop_all}
use Rattle.std.proofs.lemmas.Str.Pattern.{split_once_first}
use Rattle.cert_tool.proofs.parsed_arguments.parts_of.Goals as goal

pub returns-in-Some : goal.returns-in-Some
returns-in-Some c =
    let split = split_once_first 61 c.args.word.now (Some (c.in-Some.name, c.in-Some.value)) c.in-Some.ensures.cases (lit< tt) in
    record { name = split.1; value = split.2 }

pub returns-in-None : goal.returns-in-None
returns-in-None c =
    let word = c.args.word.now in
    let split = split_once_first 61 word None c.in-None.ensures.cases (lit< tt) in
    record {
      name = sym (ap (λ n. take n word) split ∙ take_all (length word) word (le_of_eq refl));
      value = sym (ap (λ n. drop (n + 1) word) split ∙ drop_all (length word + 1) word (omega arith));
    }
