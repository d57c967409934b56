-- Goals of `order_runs::find_in` that the checker doesn't prove by itself.
use Rattle.cert_desk.proofs.FilesBecome.{OctetsBecome-said}
use Rattle.cert_desk.proofs.order_runs.find_in.Goals as goal

pub returns-in-Ok : goal.returns-in-Ok
returns-in-Ok c =
    OctetsBecome-said c.args.octets.now c.in-Ok.orders.items c.as_slice.result.now c.find_issued.result
    c.in-Ok.ensures.said c.as_slice.ensures.value c.find_issued.ensures
