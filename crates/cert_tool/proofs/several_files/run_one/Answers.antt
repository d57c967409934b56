-- What is wrong with the arguments for a file is reported.
use Rattle.std.proofs.Common.{List, ℕ, Bor, map, inl, inr, refl, ap, subst, ◌∙◌}
use Rattle.cert_tool.specs.Tasks.{IsMisuse}
use Rattle.cert_tool.proofs.several_files.run_one.Goals as goal

pub returns : goal.returns
returns g c =
    let are = ap (map (λ (word : Bor (List ℕ)). word.now)) c.as_slice.ensures.value ∙ c.in-Ok.ensures in
    inr (inl (c.in-Err.misuse, subst (λ words. IsMisuse words c.in-Err.misuse) are c.in-Err.ensures.refused, refl, c.report_misuse.ensures, refl))
