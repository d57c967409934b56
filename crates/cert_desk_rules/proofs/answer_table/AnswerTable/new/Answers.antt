-- Goals of `AnswerTable::new` that the checker doesn't prove by itself.
use Rattle.std.proofs.Common.{◌≡◌, map, ap, sym, rules}
use Rattle.std.specs.Ordering.{is_lt}
use Rattle.std.proofs.lemmas.List.Sorted.{IsPermutation-map, answers_always, list_any-IsPermutation, ranks_by}
use Rattle.cert_desk_rules.specs.Answers.{answer_plain, answer_rank, is_about, rank_cmp}
use Rattle.cert_desk_rules.proofs.AnswerOrder.{rank_cmp_total}
use Rattle.cert_desk_rules.proofs.answer_table.AnswerTable.new.Goals as goal

pub invariant_of-result : goal.invariant_of-result
invariant_of-result c =
    record {
      in_order = c.sort_unstable_by.ensures.sorted (λ a b. is_lt (rank_cmp (answer_rank a) (answer_rank b))) (ranks_by rank_cmp_total answer_rank)
          (answers_always _ _ _ (λ f a r f' k. let met : r ≡ rank_cmp (answer_rank a.0.now) (answer_rank a.1.0.now) = search rules in ap is_lt met));
    }

pub returns : goal.returns
returns c = λ i key algorithm signed bits.
    sym (list_any-IsPermutation (is_about key algorithm signed bits) (map answer_plain c.args.answers.items) (map answer_plain c.sort_unstable_by.new.self.items)
    (IsPermutation-map answer_plain c.args.answers.items c.sort_unstable_by.new.self.items c.sort_unstable_by.ensures.permutation)) i
