-- Goals of `running::obey_with_reasons`: the command is run as by `obey`, and `issue` is explained.
use Rattle.std.proofs.Common.{inl, inr, refl}
use Rattle.cert_desk.specs.declared.command.Command.TheVariants as commands
use Rattle.cert_desk.proofs.running.obey_with_reasons.Goals as goal

pub returns-in-Some : goal.returns-in-Some
returns-in-Some g c =
    let h = c.issue_with_reasons.ensures in
    (h.0, inl (commands.Issue c.in-Some.orders, c.in-Some.ensures.read, (refl, h.1)), inl (c.in-Some.orders.now, c.in-Some.ensures.read, h.2))

pub returns-in-None : goal.returns-in-None
returns-in-None g c = (c.obey.new.err, c.obey.ensures.obeyed, inr (c.in-None.ensures.refused, refl))
