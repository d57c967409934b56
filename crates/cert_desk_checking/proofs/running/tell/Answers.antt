-- Goals of `running::tell` that the checker doesn't prove by itself.
use Rattle.std.proofs.Common.{refl, inl, sym, ◌∙◌, subst}
use Rattle.cert_desk_rules.specs.DeskIo.declared.exit_status.ExitStatus.TheVariants as statuses
use Rattle.cert_desk_rules.specs.DeskIo.Devices.{sink}
use Rattle.cert_desk_rules.specs.DeskIo.Telling.{IsComplaint}
use Rattle.cert_desk_checking.specs.Runs.{IsTold}
use Rattle.cert_desk_checking.proofs.running.tell.Goals as goal

pub returns-in-Ok-anchors_line : goal.returns-in-Ok-anchors_line
returns-in-Ok-anchors_line g c =
    let out = sink g.O.Output.gives g.O.Output.failures c.args.out.now c.args.out.now in
    let err = sink g.E.Output.gives g.E.Output.failures c.args.err.now c.complain.new.err in
    let text = c.as_bytes-in-Ok-anchors_line.ensures.value ∙ c.in-Ok-anchors_line.ensures in
    let told = subst (λ w. IsComplaint err w statuses.Arguments c.complain.result) text c.complain.ensures.told in
    subst (λ outcome. IsTold out err outcome c.complain.result) (sym c.in-BadAnchors.is) (refl, inl told)
