-- Goals of `questions::chain_of` that the checker doesn't prove by itself.
use Rattle.std.proofs.Common.{ℕ, inl, sym, subst, ◌∙◌}
use Rattle.cert_tool_describe.specs.Oid.Bound.{Bound}
use Rattle.cert_desk_answers.specs.DeskBundle.Chains.{Chain}
use Rattle.cert_desk_c.proofs.AskedQuestions.{no_series}
use Rattle.cert_desk_c.proofs.questions.chain_of.Goals as goal

pub returns-in_default : goal.returns-in_default
returns-in_default c =
    let it = c.in_ok-bundle.ensures in
    let none = no_series c.in_ok-bundle.bundle c.args.octets.now it.ended (λ e. c.in_default.not-Ended (c.standing.ensures ∙ e)) it.reads in
    record { chain = tt; some = tt; none = inl (λ cs chain. none cs (subst (λ (n : ℕ). Chain Bound n cs c.args.octets.now) (sym it.limit) chain)) }
