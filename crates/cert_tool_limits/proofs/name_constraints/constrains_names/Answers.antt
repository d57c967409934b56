-- Each extension is tested in turn.
use Rattle.std.proofs.Common.{rules, tests, ◌∙◌}
use Rattle.std.proofs.lemmas.Iterator.{YieldsList-from_slice}
use Rattle.std.proofs.lemmas.Iterator.Search.{any_from_yields_List}
use Rattle.cert_desk_bundle.specs.CertParts.Views.{extension_plain}
use Rattle.cert_desk_rules.specs.Weighing.{is_ce}
use Rattle.cert_desk_rules.proofs.ExtensionLaws.{any_of_list}
use Rattle.cert_tool_limits.proofs.name_constraints.constrains_names.Goals as goal

pub returns : goal.returns
returns c =
    any_from_yields_List (λ e. is_ce 30 (extension_plain e)) _ _ _ c.any.ensures.ran (YieldsList-from_slice c.args.extensions.now cc) (λ x b q k. search (rules, tests))
    ∙ any_of_list extension_plain (is_ce 30) c.args.extensions.now
