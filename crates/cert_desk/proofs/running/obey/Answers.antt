-- Goals of `running::obey`: words that aren't a command are answered with the usage line.
use Rattle.std.proofs.Common.{inr, refl, subst}
use Rattle.cert_desk_listing.specs.DeskIo.declared.exit_status.ExitStatus.TheVariants as statuses
use Rattle.cert_desk_listing.specs.DeskIo.Devices.{sink}
use Rattle.cert_desk_listing.specs.DeskIo.Telling.{IsComplaint}
use Rattle.cert_desk.proofs.running.obey.Goals as goal

pub returns-in-None : goal.returns-in-None
returns-in-None g c =
    let none = c.in-None.ensures in
    let err = sink g.E.Output.gives g.E.Output.failures c.args.err.now c.complain.new.err in
    record {
      obeyed = inr (
        none.no_check,
        none.no_listing,
        none.no_issuing,
        refl,
        refl,
        subst (λ text. IsComplaint err text statuses.Arguments c.complain.result) c.as_bytes.ensures.value c.complain.ensures.told,
      );
    }
