-- Goals of `weighing::is_listed` that the checker doesn't prove by itself.
use Rattle.std.proofs.Common.{rules, tests, ◌||◌}
use Rattle.std.proofs.lemmas.Iterator.{YieldsList-from_slice}
use Rattle.std.proofs.lemmas.Iterator.Search.{any_from_yields_List}
use Rattle.cert_desk_bundle.specs.Oid.Comparing.{owned_eq}
use Rattle.cert_desk_rules.specs.Weighing.{any_purpose}
use Rattle.cert_desk_rules.proofs.weighing.is_listed.Goals as goal

pub returns : goal.returns
returns c =
    any_from_yields_List (λ one. owned_eq one c.args.purpose.now || owned_eq one any_purpose) _ _ _ c.any.ensures.ran (YieldsList-from_slice c.args.listed.now cc) (λ x b q k. search (rules, tests))
