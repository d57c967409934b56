-- Goals of `AnswerTable::has` that the checker doesn't prove by itself.
use Rattle.std.proofs.Common.{subst, sym, ap, ◌∙◌, rules}
use Rattle.std.specs.List.{list_any}
use Rattle.std.specs.List.Sorted.{IsPartitionedBy, IsSortedByKey}
use Rattle.std.specs.Ordering.{is_le, is_lt}
use Rattle.std.proofs.lemmas.List.Sorted.{IsPartitionPoint-from_clause}
use Rattle.cert_desk_bundle.specs.CertParts.Views.{algorithm_plain, key_plain}
use Rattle.cert_desk_rules.specs.Answers.{answer_plain, answer_rank, is_about, rank_cmp}
use Rattle.cert_desk_rules.proofs.AnswerOrder.{any_map, at, found, parted_less, parted_most}
use Rattle.cert_desk_rules.proofs.answer_table.AnswerTable.has.Goals as goal

pub returns : goal.returns
returns c =
    let key = key_plain c.args.key.now in
    let algorithm = algorithm_plain c.args.algorithm.now in
    let signed = c.args.signed.now in
    let bits = c.args.bits.now in
    let xs = c.as_slice-answers.result.now in
    let sorted = subst (λ w. IsSortedByKey answer_rank rank_cmp w) (sym c.as_slice-answers.ensures.value) c.args.self.now.in_order in
    let first = IsPartitionPoint-from_clause (λ a. is_lt (at key algorithm signed bits a)) xs c.partition_point-first.result c.partition_point-first.ensures.partitioned
    (parted_less key algorithm signed bits xs sorted) (λ a r f' k. search rules) in
    let parted = subst (λ w. IsPartitionedBy (λ a. is_le (at key algorithm signed bits a)) w) (sym c.split_at.ensures.back)
    (parted_most key algorithm signed bits xs sorted c.partition_point-first.result) in
    let count = IsPartitionPoint-from_clause (λ a. is_le (at key algorithm signed bits a)) c.split_at.result.1.now c.partition_point-count.result
    c.partition_point-count.ensures.partitioned parted (λ a r f' k. search rules) in
    c.any_about.ensures
    ∙ sym (any_map (is_about key algorithm signed bits) answer_plain c.args.self.now.sorted.items
    ∙ ap (list_any (λ a. is_about key algorithm signed bits (answer_plain a))) (sym c.as_slice-answers.ensures.value)
    ∙ found key algorithm signed bits xs c.split_at.result.1.now c.split_at-2.result.0.now c.partition_point-first.result c.partition_point-count.result
    c.split_at.ensures.back c.split_at-2.ensures.front first.0 count.1)
