-- Goals of `descriptions::give_lines` that the checker doesn't prove by itself.
use Rattle.std.proofs.Common.{◌≡◌, ℕ, List, inl, length, sym, ◌∙◌}
use Rattle.cert_desk_answers.proofs.DeskRules.Returning.{given}
use Rattle.cert_desk_c.proofs.descriptions.give_lines.Goals as goal

pub returns-clause-given : goal.returns-clause-given
returns-clause-given c = λ none.
    inl (given (λ (text : List ℕ). c.give.new.size ≡ length text) (λ _. ⊥) c.args.out.now c.as_slice.result.now c.give.result c.give.ensures.number (λ other h. sym h ∙ c.give.ensures.number) (λ status never. never)
    c.give.ensures.status c.give.ensures.fits c.give.ensures.no_room)
