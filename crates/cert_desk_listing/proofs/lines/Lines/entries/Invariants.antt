-- The loop invariant of `Lines::entries`: the text so far, followed by the lines of the remaining
-- entries, is the whole text.
use Rattle.std.proofs.Common.{◌≡◌, ◌++◌, string_bytes, drop}
use Rattle.x509_cert_lists.specs.Der.Grammar.{plain_list}
use Rattle.x509_cert_lists.specs.ListViews.{revoked_cert_plain}
use Rattle.cert_desk_listing.specs.Listing.{revoked_lines}
use Rattle.cert_desk_listing.proofs.lines.Lines.entries.Given as goal

abbrev pub invariant-loop-entry : goal.invariant-loop-entry
invariant-loop-entry g l =
    string_bytes l.self.text ++ revoked_lines (plain_list revoked_cert_plain (drop l.entry-index l.entries)) ≡ string_bytes l.fn.self.text ++ revoked_lines (plain_list revoked_cert_plain l.fn.entries)
