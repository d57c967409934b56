-- Goals of `signers::any_key_identifier`: the extension at the index passes the test, or doesn't.
use Rattle.std.proofs.Common.{sym, ap, ◌∙◌}
use Rattle.cert_desk_checking.specs.CertParts.Views.{extension_plain}
use Rattle.pki_signers.specs.Signers.{is_key_identifier}
use Rattle.pki_signers.proofs.KeyIdentifiers.{any_here, any_later}
use Rattle.pki_signers.proofs.signers.any_key_identifier.Goals as goal

pub returns-then-is_key_identifier : goal.returns-then-is_key_identifier
returns-then-is_key_identifier c =
    let passes = ap (λ x. is_key_identifier c.args.key_identifier.now (extension_plain x)) (sym c.extension-item.is) ∙ sym c.is_key_identifier.ensures ∙ c.if-is_key_identifier.true in
    sym (any_here _ c.args.extensions.now c.loop-extension.extension-index _ c.loop-extension-test.true passes) ∙ c.loop-extension.invariant.left

pub loop-extension-preserved : goal.loop-extension-preserved
loop-extension-preserved c =
    let fails = ap (λ x. is_key_identifier c.args.key_identifier.now (extension_plain x)) (sym c.extension-item.is) ∙ sym c.is_key_identifier.ensures ∙ c.if-is_key_identifier.false in
    record { left = any_later _ c.args.extensions.now c.loop-extension.extension-index _ c.loop-extension-test.true fails ∙ c.loop-extension.invariant.left }
