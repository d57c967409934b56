-- Goals of `order_runs::tell` that the checker doesn't prove by itself.
use Rattle.std.proofs.Common.{refl, inl, sym, ◌∙◌, subst}
use Rattle.cert_desk_listing.specs.DeskIo.declared.exit_status.ExitStatus.TheVariants as statuses
use Rattle.cert_desk_listing.specs.DeskIo.Devices.{sink}
use Rattle.cert_desk_listing.specs.DeskIo.Telling.{IsComplaint}
use Rattle.cert_desk.specs.Runs.{IsTold}
use Rattle.cert_desk.proofs.order_runs.tell.Goals as goal

pub returns-in-Ok-fault_line : goal.returns-in-Ok-fault_line
returns-in-Ok-fault_line g c =
    let out = sink g.O.Output.gives g.O.Output.failures c.args.out.now c.args.out.now in
    let err = sink g.E.Output.gives g.E.Output.failures c.args.err.now c.complain-in-Ok-fault_line.new.err in
    let text = c.as_bytes-in-Ok-fault_line.ensures.value ∙ c.in-Ok-fault_line.ensures in
    let told = subst (λ w. IsComplaint err w statuses.Arguments c.complain-in-Ok-fault_line.result) text c.complain-in-Ok-fault_line.ensures.told in
    subst (λ outcome. IsTold out err outcome c.complain-in-Ok-fault_line.result) (sym c.in-BadLine.is) (refl, inl told)
