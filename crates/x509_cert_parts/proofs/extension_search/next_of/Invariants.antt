-- The loop invariant of `extension_search::next_of`: the extensions so far have other OIDs.
use Rattle.std.proofs.Common.{◌≡◌, drop}
use Rattle.x509_cert_parts.specs.ExtensionSearch.{of_identifier}
use Rattle.x509_cert_parts.specs.Views.{extensions_plain}
use Rattle.x509_cert_parts.proofs.extension_search.next_of.Given as goal

abbrev pub invariant-loop-place : goal.invariant-loop-place
invariant-loop-place l = of_identifier l.identifier (extensions_plain (drop l.place l.extensions)) ≡ of_identifier l.identifier (extensions_plain l.extensions)
