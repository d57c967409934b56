-- The loop invariants of `list_writing::entries_in_range`.
use Rattle.std.proofs.Common.{drop}
use Rattle.std.specs.List.{AllByRecursion}
use Rattle.x509_cert_anchors.specs.Der.Grammar.{plain_list}
use Rattle.x509_cert_anchors.specs.Der.Ranges.{IsInRange}
use Rattle.x509_cert_lists.specs.ListViews.{revoked_cert_plain}
use Rattle.x509_cert.specs.Lists.{raw_entry}
use Rattle.x509_cert.proofs.list_writing.entries_in_range.Given as goal

abbrev pub invariant-loop-one : goal.invariant-loop-one
invariant-loop-one g l =
    let R = IsInRange raw_entry in
    AllByRecursion R (plain_list revoked_cert_plain (drop l.one-index l.entries)) → AllByRecursion R (plain_list revoked_cert_plain l.entries)
