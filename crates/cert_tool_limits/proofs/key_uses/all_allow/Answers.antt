-- Each extension is tested in turn.
use Rattle.std.proofs.Common.{rules, tests, ◌∙◌}
use Rattle.std.proofs.lemmas.Iterator.{YieldsList-from_slice}
use Rattle.std.proofs.lemmas.Iterator.Search.{all_from_yields_List}
use Rattle.cert_desk_bundle.specs.CertParts.Views.{extension_plain}
use Rattle.cert_tool_limits.specs.Limits.{allows}
use Rattle.cert_tool_limits.proofs.ListLaws.{all_of_list}
use Rattle.cert_tool_limits.proofs.key_uses.all_allow.Goals as goal

pub returns : goal.returns
returns c =
    all_from_yields_List (λ e. allows c.args.purpose.now (extension_plain e)) _ _ _ c.all.ensures.ran (YieldsList-from_slice c.args.extensions.now cc) (λ x b q k. search (rules, tests))
    ∙ all_of_list extension_plain (allows c.args.purpose.now) c.args.extensions.now
