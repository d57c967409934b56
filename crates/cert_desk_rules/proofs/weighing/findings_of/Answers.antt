-- Goals of `weighing::findings_of` that the checker doesn't prove by itself.
use Rattle.std.proofs.Common.{arith}
use Rattle.cert_desk_bundle.specs.CertParts.Views.{extension_plain}
use Rattle.cert_desk_rules.proofs.MemoryLaws.{one_takes}
use Rattle.cert_desk_bundle.proofs.DeskIo.Given.{OnErr-by}
use Rattle.cert_desk_rules.proofs.weighing.findings_of.Goals as goal

pub returns-in_err-weight-clause-memory : goal.returns-in_err-weight-clause-memory
returns-in_err-weight-clause-memory c =
    OnErr-by _ _ (one_takes extension_plain c.args.extensions.now c.loop-extension.extension-index c.extension-item.result (omega (arith, c.loop-extension-test.true)) c.extension-item.is c.in_err-weight.ensures.memory)
