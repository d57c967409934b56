-- Goals of `running::read_stream` that the checker doesn't prove by itself.
use Rattle.cert_desk_rules.specs.DeskIo.Devices.{source}
use Rattle.cert_desk_checking.proofs.RunLaws.{fed_by}
use Rattle.cert_desk_checking.proofs.running.read_stream.Goals as goal

pub returns-clause-fed : goal.returns-clause-fed
returns-clause-fed g c =
    fed_by (source g.I.Input.takes g.I.Input.is_ended g.I.Input.failures c.args.input.now c.read_from.new.input) c.new-bundle.result c.read_from.new.self
    c.new-bundle.ensures.open c.new-bundle.ensures.empty c.read_from.ensures.limit
    c.read_from.result c.read_from.ensures.ended c.read_from.ensures.end c.read_from.ensures.sound c.read_from.ensures.reads c.read_from.ensures.refused
