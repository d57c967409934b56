-- Goals of `running::issue`: the orders file is opened, and its outcome is reported.
use Rattle.std.proofs.Common.{inl}
use Rattle.cert_desk.proofs.running.issue.Goals as goal

pub returns : goal.returns
returns g c = record { told = inl (c.in-Ok.input, c.run_orders.new.input, c.in-Ok.ensures.opened, c.run_orders.ensures) }
