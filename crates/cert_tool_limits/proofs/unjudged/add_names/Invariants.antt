-- The names so far, with those of the remaining extensions, are all names.
use Rattle.std.proofs.Common.{◌≡◌, drop, string_bytes}
use Rattle.x509_cert_anchors.specs.CertParts.Views.{extensions_plain}
use Rattle.cert_tool_limits.specs.Unjudged.{and_names}
use Rattle.cert_tool_limits.proofs.unjudged.add_names.Given as goal

abbrev pub invariant-loop-extension : goal.invariant-loop-extension
invariant-loop-extension l = record {
  left : and_names l.role (string_bytes l.items) (extensions_plain (drop l.extension-index l.extensions)) ≡ and_names l.role (string_bytes l.fn.items) (extensions_plain l.extensions);
}
