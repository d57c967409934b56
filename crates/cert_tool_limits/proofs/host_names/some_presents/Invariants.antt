-- No extension so far has a name of the host, so the result is that of the remaining ones.
use Rattle.std.proofs.Common.{◌≡◌, drop}
use Rattle.std.specs.List.{list_any}
use Rattle.x509_cert_anchors.specs.CertParts.Views.{extensions_plain}
use Rattle.cert_tool_limits.specs.Limits.{presents}
use Rattle.cert_tool_limits.proofs.host_names.some_presents.Given as goal

abbrev pub invariant-loop-extension : goal.invariant-loop-extension
invariant-loop-extension l = record {
  left : list_any (presents l.host) (extensions_plain (drop l.extension-index l.extensions)) ≡ list_any (presents l.host) (extensions_plain l.extensions);
}
