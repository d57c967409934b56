-- Goals of `running::show`: the file is opened, and its contents are reported.
use Rattle.std.proofs.Common.{inl}
use Rattle.cert_desk.proofs.running.show.Goals as goal

pub returns : goal.returns
returns g c = record { told = inl (c.in-Ok.input, c.run_show.new.input, c.in-Ok.ensures.opened, c.run_show.ensures) }
