-- Whether the certificates of a chain keep every rule.
use Rattle.std.specs.Prelude.{List, Bool}
use Rattle.std.specs.List.{list_all}
use Rattle.cert_desk_checking.specs.DeskRules.declared.kept_rules.KeptRules.{KeptRules}
use Rattle.cert_desk_checking.specs.DeskRules.Judging.{in_order}
use Rattle.cert_desk_checking.specs.DeskRules.KeptRules.{kept_by}

-- A certificate keeps every rule, according to the results of the check.
abbrev pub keeps_each_rule : KeptRules → Bool
keeps_each_rule k = list_all (kept_by k) in_order

-- Each certificate keeps every rule.
abbrev pub are_kept : List KeptRules → Bool
are_kept judged = list_all keeps_each_rule judged
