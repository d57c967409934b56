-- The loop invariant of `Lines::attributes`: the text so far, followed by the lines of the
-- remaining attributes, is the whole text.
use Rattle.std.proofs.Common.{◌≡◌, ◌++◌, string_bytes, drop}
use Rattle.std.specs.List.{flat_map}
use Rattle.x509_cert_lists.specs.Der.Grammar.{plain_list}
use Rattle.x509_cert_lists.specs.CertNames.Views.{attribute_plain}
use Rattle.cert_desk_listing.specs.Listing.{attribute_lines}
use Rattle.cert_desk_listing.proofs.lines.Lines.attributes.Given as goal

abbrev pub invariant-loop-attribute : goal.invariant-loop-attribute
invariant-loop-attribute l =
    string_bytes l.self.text ++ flat_map attribute_lines (plain_list attribute_plain (drop l.attribute-index l.attributes)) ≡ string_bytes l.fn.self.text ++ flat_map attribute_lines (plain_list attribute_plain l.fn.attributes)
