-- The loop invariant of `signers::any_key_identifier`: no extension so far passes the test, so the
-- result is that of the remaining ones.
use Rattle.std.proofs.Common.{◌≡◌, drop}
use Rattle.std.specs.List.{list_any}
use Rattle.cert_desk_checking.specs.CertParts.Views.{extensions_plain}
use Rattle.pki_signers.specs.Signers.{is_key_identifier}
use Rattle.pki_signers.proofs.signers.any_key_identifier.Given as goal

abbrev pub invariant-loop-extension : goal.invariant-loop-extension
invariant-loop-extension l = record {
  left : list_any (is_key_identifier l.key_identifier) (extensions_plain (drop l.extension-index l.extensions))
      ≡ list_any (is_key_identifier l.key_identifier) (extensions_plain l.extensions);
}
