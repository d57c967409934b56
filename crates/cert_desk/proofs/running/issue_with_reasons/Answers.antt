-- Goals of `running::issue_with_reasons`: the orders file is opened, and its outcome is explained.
use Rattle.std.proofs.Common.{inl, inr, refl}
use Rattle.cert_desk_listing.specs.DeskIo.declared.named_inputs.OpenError.TheVariants as openings
use Rattle.cert_desk.proofs.running.issue_with_reasons.Goals as goal

pub returns-in-Ok : goal.returns-in-Ok
returns-in-Ok g c =
    let h = c.run_orders_with_reasons.ensures in (
      h.1,
      inl (c.in-Ok.input, c.run_orders_with_reasons.new.input, c.in-Ok.ensures.opened, (h.0, h.2, h.3)),
      inl (c.in-Ok.input, c.run_orders_with_reasons.new.input, c.in-Ok.ensures.opened, (h.0, h.2, h.3, h.4)),
    )

pub returns-in-Err-Device : goal.returns-in-Err-Device
returns-in-Err-Device g c =
    let unopened = rw c.in-Err-Device.field-0-is at c.in-Err-Device.ensures.unopened in (
      c.tell_device-status.new.err,
      inr (refl, openings.Device, inl unopened, c.tell_device-status.ensures.told),
      inr (inl (unopened, c.add.ensures)),
    )

pub returns-in-Err-OutOfMemory : goal.returns-in-Err-OutOfMemory
returns-in-Err-OutOfMemory g c =
    let unopened = rw c.in-Err-OutOfMemory.field-0-is at c.in-Err-OutOfMemory.ensures.unopened in
    (c.tell_memory.new.err, inr (refl, openings.OutOfMemory, inl unopened, c.tell_memory.ensures.told), inr (inr (unopened, refl)))
