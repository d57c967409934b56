-- Goals of `files::value_input` that the checker doesn't prove by itself.
use Rattle.cert_desk_io.specs.Devices.{source}
use Rattle.cert_tool_pem.proofs.DerReversed.{der_unmeant}
use Rattle.cert_tool_pem.proofs.TextOctets.{err_by}
use Rattle.cert_tool_pem.proofs.files.value_input.Goals as goal

pub returns-in-Ok-Der-clause-unmeant : goal.returns-in-Ok-Der-clause-unmeant
returns-in-Ok-Der-clause-unmeant g c =
    let begun = rw c.in-Ok-Der.field-0-is at c.in-Ok-Der.ensures.begun in
    err_by c.der_input.result _ _
    (λ error why. (c.begin.new.input, der_unmeant c.args.wanted (source g.I.Input.takes g.I.Input.is_ended g.I.Input.failures c.args.input c.begin.new.input) error why begun)) c.der_input.ensures.stopped
