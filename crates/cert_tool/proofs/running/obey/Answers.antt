-- Arguments that ask neither for help nor for the version are a task, or they are wrong.
use Rattle.std.proofs.Common.{inl, inr, refl, sym, ◌∙◌}
use Rattle.cert_tool.proofs.running.obey.Goals as goal

pub returns-in-Ok : goal.returns-in-Ok
returns-in-Ok g c =
    record { obeyed = inr (sym c.any_help_or_version.ensures ∙ c.if-any_help_or_version.false, inl (c.in-Ok.task, c.in-Ok.ensures.read, c.run_task.ensures)) }

pub returns-in-Err : goal.returns-in-Err
returns-in-Err g c =
    record { obeyed = inr (sym c.any_help_or_version.ensures ∙ c.if-any_help_or_version.false, inr (c.in-Err.misuse, c.in-Err.ensures.refused, refl, c.report_misuse.ensures, refl)) }
