-- Goals of `order_runs::find` that the checker doesn't prove by itself.
use Rattle.cert_desk_listing.specs.DeskIo.Devices.{source}
use Rattle.cert_desk.proofs.FilesBecome.{FileBecomes-whole}
use Rattle.cert_desk.proofs.order_runs.find.Goals as goal

pub returns-in-Ok : goal.returns-in-Ok
returns-in-Ok g c =
    FileBecomes-whole (source g.I.Input.takes g.I.Input.is_ended g.I.Input.failures c.args.input.now c.read.new.input) c.in-Ok.octets.items c.as_slice.result.now
    c.find_in.result c.in-Ok.ensures.whole c.as_slice.ensures.value c.find_in.ensures
