-- Each name is tested in turn.
use Rattle.std.proofs.Common.{rules, tests, ◌∙◌}
use Rattle.std.proofs.lemmas.Iterator.{YieldsList-from_slice}
use Rattle.std.proofs.lemmas.Iterator.Search.{any_from_yields_List}
use Rattle.x509_cert_anchors.specs.CertGeneralNames.GeneralNameViews.{general_name_plain}
use Rattle.cert_desk_rules.proofs.ExtensionLaws.{any_of_list}
use Rattle.cert_tool_limits.specs.Limits.{is_of_host}
use Rattle.cert_tool_limits.proofs.host_names.is_among.Goals as goal

pub returns : goal.returns
returns c =
    any_from_yields_List (λ name. is_of_host c.args.host.now (general_name_plain name)) _ _ _ c.any.ensures.ran (YieldsList-from_slice c.args.names.now cc) (λ x b q k. search (rules, tests))
    ∙ any_of_list general_name_plain (is_of_host c.args.host.now) c.args.names.now
