-- Goals of `tasks::task_of` that the checker doesn't prove by itself.
use Rattle.std.proofs.Common.{rules, refl, sym}
use Rattle.cert_tool.proofs.tasks.task_of.Goals as goal

-- The clause is proved part by part.
pub returns-clause-read : goal.returns-clause-read
returns-clause-read c = (
  c.requires.kept,
  refl,
  refl,
  c.text_of-anchors.ensures,
  c.text_of-answers.ensures,
  search rules,
  search rules,
  search rules,
  search rules,
  c.is_given.ensures,
  c.is_given-2.ensures,
  c.is_given-3.ensures,
  c.is_given-5.ensures,
  search rules,
  search rules,
  c.is_given-4.ensures,
  sym c.if-is_bytes_in_json.ensures,
  sym c.if-shares_input.ensures,
)
