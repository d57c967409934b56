-- Goals of `extensions::is_alone` that the checker doesn't prove by itself.
use Rattle.std.proofs.Common.{rules, tests, ap, ◌∙◌}
use Rattle.std.specs.Prelude.{Bool, not}
use Rattle.std.proofs.lemmas.Iterator.{YieldsList-from_slice}
use Rattle.std.proofs.lemmas.Iterator.Search.{any_from_yields_List}
use Rattle.cert_desk_bundle.specs.Oid.Comparing.{owned_eq}
use Rattle.cert_desk_bundle.specs.CertParts.Grammar.{extension_arcs}
use Rattle.cert_desk_bundle.specs.CertParts.Views.{extension_plain}
use Rattle.cert_desk_rules.proofs.ExtensionLaws.{any_of_list}
use Rattle.cert_desk_rules.proofs.extensions.is_alone.Goals as goal

pub returns : goal.returns
returns c =
    let arcs = c.args.extension.now.extn_id in
    ap (λ (b : Bool). not b) (
    any_from_yields_List (λ e. owned_eq arcs e.extn_id) _ _ _ c.any.ensures.ran (YieldsList-from_slice c.args.others.now cc) (λ x b q k. search (rules, tests))
    ∙ any_of_list extension_plain (λ e. owned_eq arcs (extension_arcs e)) c.args.others.now
    )
