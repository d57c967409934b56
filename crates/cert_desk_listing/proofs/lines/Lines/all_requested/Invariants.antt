-- The loop invariant of `Lines::all_requested`: the text so far, followed by the lines of the
-- remaining values, is the whole text.
use Rattle.std.proofs.Common.{◌≡◌, ◌++◌, string_bytes, drop}
use Rattle.std.specs.List.{flat_map}
use Rattle.cert_desk_listing.specs.Listing.{value_lines}
use Rattle.cert_desk_listing.proofs.lines.Lines.all_requested.Given as goal

abbrev pub invariant-loop-value : goal.invariant-loop-value
invariant-loop-value l =
    string_bytes l.self.text ++ flat_map value_lines (drop l.value-index l.values) ≡ string_bytes l.fn.self.text ++ flat_map value_lines l.fn.values
