-- Goals of `order_runs::run_orders_with_reasons`: the outcome is reported, and then explained.
use Rattle.std.proofs.Common.{inl, inr, refl, subst}
use Rattle.cert_desk_listing.specs.DeskIo.Devices.{sink, source}
use Rattle.cert_desk.specs.Explaining.{IsExplainedAfter}
use Rattle.cert_desk.proofs.FilesBecome.{FileBecomes-whole}
use Rattle.cert_desk.proofs.order_runs.run_orders_with_reasons.Goals as goal

pub returns-in-Err : goal.returns-in-Err
returns-in-Err g c = (c.in-Err.outcome, c.tell.new.err, c.in-Err.ensures.unread, c.tell.ensures, inr (c.in-Err.ensures.unwhole.0, c.in-Err.ensures.unwhole.1, refl))

pub returns : goal.returns
returns g c =
    let input = source g.I.Input.takes g.I.Input.is_ended g.I.Input.failures c.args.input.now c.read.new.input in
    let err = sink g.E.Output.gives g.E.Output.failures c.tell-status.new.err c.explain_after.new.err in (
      c.find_in-outcome.result,
      c.tell-status.new.err,
      FileBecomes-whole input c.in-Ok.octets.items c.as_slice.result.now c.find_in-outcome.result c.in-Ok.ensures.whole c.as_slice.ensures.value c.find_in-outcome.ensures,
      c.tell-status.ensures,
      inl (c.in-Ok.octets.items, c.in-Ok.ensures.whole, subst (λ octets. IsExplainedAfter c.tell-status.result err octets c.find_in-outcome.result) c.as_slice-2.ensures.value c.explain_after.ensures),
    )
