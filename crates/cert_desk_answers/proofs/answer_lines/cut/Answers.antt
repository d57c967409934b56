-- Goals of `answer_lines::cut` that the checker doesn't prove by itself.
use Rattle.std.proofs.Common.{◌+◌}
use Rattle.std.proofs.lemmas.List.{take_rest}
use Rattle.cert_desk_answers.proofs.Cuts.{first_part, one_part}
use Rattle.cert_desk_answers.proofs.answer_lines.cut.Goals as goal

pub returns-in-None-clause-parts : goal.returns-in-None-clause-parts
returns-in-None-clause-parts c = one_part c.args.separator c.args.text.now c.in-None.ensures

pub returns-in-Some-clause-parts : goal.returns-in-Some-clause-parts
returns-in-Some-clause-parts c =
    let rest = take_rest c.args.text.now (c.in-Some.at + 1) in
    rw rest (first_part c.args.separator c.args.text.now c.in-Some.at c.in-Some.ensures.0 c.in-Some.ensures.1)
