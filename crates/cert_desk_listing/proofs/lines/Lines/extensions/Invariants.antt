-- The loop invariant of `Lines::extensions`: the text so far, followed by the lines of the
-- remaining extensions, is the whole text.
use Rattle.std.proofs.Common.{◌≡◌, ◌++◌, string_bytes, drop}
use Rattle.x509_cert_lists.specs.CertParts.Views.{extensions_plain}
use Rattle.cert_desk_listing.specs.Listing.{extension_lines}
use Rattle.cert_desk_listing.proofs.lines.Lines.extensions.Given as goal

abbrev pub invariant-loop-extension : goal.invariant-loop-extension
invariant-loop-extension l =
    string_bytes l.self.text ++ extension_lines (extensions_plain (drop l.extension-index l.extensions)) ≡ string_bytes l.fn.self.text ++ extension_lines (extensions_plain l.fn.extensions)
